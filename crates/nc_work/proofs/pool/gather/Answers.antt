use Rattle.std.proofs.Common.{subst, sym}
use Rattle.std.specs.Prelude.{List, All}
use Rattle.std.proofs.lemmas.List.Elements.{All-head, All-rest}
use Rattle.nc_work.specs.declared.pool.Worker.{Worker}
use Rattle.nc_work.specs.Found.{AreDone}
use Rattle.nc_work.proofs.pool.gather.Goals as goal

pub put_all-requires-clause-done : goal.put_all-requires-clause-done
put_all-requires-clause-done g c =
    let P : Worker g.row.S.Denot g.row.R.Denot → Type 0 = λ worker. AreDone g.F.Fn c.args.f.now worker.done.items in
    All-head P c.in-Some.worker _ (subst (λ (z : List _). All P z) c.in-Some.ensures.steps.0 c.loop-worker.invariant.workers)

pub loop-worker-preserved : goal.loop-worker-preserved
loop-worker-preserved g c =
    let P : Worker g.row.S.Denot g.row.R.Denot → Type 0 = λ worker. AreDone g.F.Fn c.args.f.now worker.done.items in
    record {
      workers = All-rest P c.in-Some.worker _ _ c.in-Some.ensures.steps.0 c.loop-worker.invariant.workers;
      places = c.put_all.ensures.places;
    }

pub loop-worker-init : goal.loop-worker-init
loop-worker-init g c =
    let P : Worker g.row.S.Denot g.row.R.Denot → Type 0 = λ worker. AreDone g.F.Fn c.args.f.now worker.done.items in
    record {
      workers = subst (λ (z : List _). All P z) (sym c.into_iter-worker-iterator.ensures.into_iter_gives.0) c.requires.workers;
      places = c.requires.places;
    }

pub put_all-requires-clause-places : goal.put_all-requires-clause-places
put_all-requires-clause-places g c = c.loop-worker.invariant.places

pub returns-clause-len : goal.returns-clause-len
returns-clause-len g c = c.loop-worker.auto.places

pub returns-clause-places : goal.returns-clause-places
returns-clause-places g c = c.loop-worker.invariant.places
