use Rattle.std.proofs.Common.{subst, sym}
use Rattle.nc_work.specs.declared.pool.Worker.{Worker}
use Rattle.nc_work.specs.Found.{AreDone}
use Rattle.nc_work.proofs.pool.work_all.Goals as goal

pub for_each_mut-requires-clause-accepts : goal.for_each_mut-requires-clause-accepts
for_each_mut-requires-clause-accepts g c κs within = λ i p below is. (
  c.requires.accepts,
  subst (λ (worker : Worker g.row.S.Denot g.row.R.Denot). AreDone g.F.Fn c.args.f.now worker.done.items) (sym is) (c.requires.done i p.now below),
)
