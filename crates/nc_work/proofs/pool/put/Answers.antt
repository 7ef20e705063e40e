use Rattle.nc_work.proofs.Places.{places_set}
use Rattle.nc_work.proofs.pool.put.Goals as goal

pub returns-then-place-places-clause-places : goal.returns-then-place-places-clause-places
returns-then-place-places-clause-places g c = places_set g.F.Fn c.args.f.now _ _ _ c.requires.places c.requires.done
