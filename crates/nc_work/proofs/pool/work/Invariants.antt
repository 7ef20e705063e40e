use Rattle.nc_work.specs.Found.{AreDone}
use Rattle.nc_work.proofs.pool.work.Given as goal

abbrev pub invariant-loop-turn : goal.invariant-loop-turn
invariant-loop-turn g l = AreDone g.F.Fn l.f l.worker.done.items
