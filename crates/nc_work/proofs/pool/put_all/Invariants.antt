use Rattle.std.specs.Vec.Iter.{into_iter_items}
use Rattle.nc_work.specs.Found.{AreDone, ArePlaces}
use Rattle.nc_work.proofs.pool.put_all.Given as goal

abbrev pub invariant-loop-one : goal.invariant-loop-one
invariant-loop-one g l = record { done : AreDone g.F.Fn l.f (into_iter_items l.one-iterator); places : ArePlaces g.F.Fn l.f l.places }
