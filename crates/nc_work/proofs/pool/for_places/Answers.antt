use Rattle.nc_work.proofs.Places.{workers_back}
use Rattle.nc_work.proofs.pool.for_places.Goals as goal

pub gather-requires-clause-workers : goal.gather-requires-clause-workers
gather-requires-clause-workers g c =
    workers_back _ c.args.f.now c.in_ok-made.made.items c.work_all.new.workers c.in_ok-made.made.len c.in_ok-made.ensures c.work_all.ensures
