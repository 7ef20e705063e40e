use Rattle.std.proofs.Common.{arith}
use Rattle.std.proofs.lemmas.Grind.{common_steps}
use Rattle.nc_work.proofs.Places.{done_head, done_tail}
use Rattle.nc_work.proofs.pool.put_all.Goals as goal

pub loop-one-init : goal.loop-one-init
loop-one-init g c = grind (arith, common_steps)

pub put-requires-clause-done : goal.put-requires-clause-done
put-requires-clause-done g c = done_head g.F.Fn c.args.f.now _ _ c.in-Some.one c.in-Some.ensures.steps.0 c.loop-one.invariant.done

pub loop-one-preserved : goal.loop-one-preserved
loop-one-preserved g c = record {
  done = done_tail g.F.Fn c.args.f.now _ _ c.in-Some.one c.in-Some.ensures.steps.0 c.loop-one.invariant.done;
  places = c.put.ensures.places;
}
