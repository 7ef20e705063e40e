use Rattle.std.proofs.Common.{arith, ◌++◌, ◌∷◌, []}
use Rattle.std.proofs.lemmas.Grind.{common_steps}
use Rattle.std.specs.Prelude.{◌||◌}
use Rattle.nc_files.specs.Reports.{judged_in, ReportsCode, ReportsAll}
use Rattle.nc_files.proofs.WrittenReports.{split_more, reports_more, written_more}
use Rattle.nc_files.proofs.judging.judge_parts.Goals as goal

pub loop-part-preserved : goal.loop-part-preserved
loop-part-preserved g c =
    let request = c.args.request.now in
    let (done, split, written) = c.loop-part.invariant in
    let judged = judged_in c.in-Some.part in
    let refused = c.loop-part.is_refused in (
      done ++ judged ∷ [],
      split_more _ _ _ c.in-Some.part done split c.in-Some.ensures.steps.0,
      written_more (ReportsAll request done refused) (ReportsCode request judged c.in-Ok.more)
          (ReportsAll request (done ++ judged ∷ []) (refused || c.in-Ok.more))
          _ _ _ (λ a b h k. reports_more request done judged refused c.in-Ok.more a b h k) written c.in-Ok.ensures,
    )

pub returns : goal.returns
returns g c = grind (arith, common_steps)
