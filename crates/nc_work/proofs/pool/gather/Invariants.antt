use Rattle.std.specs.Prelude.{All}
use Rattle.std.specs.Vec.Iter.{into_iter_items}
use Rattle.nc_work.specs.Found.{AreDone, ArePlaces}
use Rattle.nc_work.proofs.pool.gather.Given as goal

abbrev pub invariant-loop-worker : goal.invariant-loop-worker
invariant-loop-worker g l = record {
  workers : All (λ worker. AreDone g.F.Fn l.f worker.done.items) (into_iter_items l.worker-iterator);
  places : ArePlaces g.F.Fn l.f l.places;
}
