use Rattle.std.proofs.Common.{refl}
use Rattle.std.proofs.lemmas.Fn.{says}
use Rattle.nc_work.proofs.Places.{given_fits}
use Rattle.nc_work.proofs.pool.call.Goals as goal

pub returns : goal.returns
returns g c = given_fits g.F.Fn c.args.f.now c.args.place c.f.result _ _ (says g.F.Fn c.f.ensures refl).met
