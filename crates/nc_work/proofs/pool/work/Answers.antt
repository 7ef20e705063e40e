use Rattle.std.proofs.Common.{sym, subst}
use Rattle.nc_work.specs.declared.pool.Worker.{Worker}
use Rattle.nc_work.specs.Found.{AreDone}
use Rattle.nc_work.proofs.Places.{done_more}
use Rattle.nc_work.proofs.pool.work.Goals as goal
use Rattle.nc_work.proofs.pool.work.Goals.{in-Some, in_default}

pub loop-turn-preserved : goal.loop-turn-preserved
loop-turn-preserved g c =
    let P : Worker g.row.S.Denot g.row.R.Denot → Type 0 = λ worker. AreDone g.F.Fn c.args.f.now worker.done.items in
    elim c.match-call.branch [
      | in-Some w ↦ subst P (sym w.worker-is) (rw w.push_reserved.ensures.items
          (done_more g.F.Fn c.args.f.now _ c.draw-place.result w.in-Some.outcome c.loop-turn.invariant w.in-Some.ensures))
      | in_default w ↦ subst P (sym w.worker-is) c.loop-turn.invariant
    ]
