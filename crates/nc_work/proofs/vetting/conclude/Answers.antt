use Rattle.std.proofs.Common.{None, arith, sym, add-one, ◌∙◌}
use Rattle.std.proofs.lemmas.Grind.{common_steps}
use Rattle.std.proofs.lemmas.List.{length-set}
use Rattle.std.proofs.lemmas.Slice.Zip.{all_zipped_more}
use Rattle.nc_work.specs.Verdicts.{IsVerdictOn}
use Rattle.nc_work.proofs.Outcomes.{next_at, found_fits, outcomes_set}
use Rattle.nc_work.proofs.vetting.conclude.Goals as goal

pub bounds-outcomes-number : goal.bounds-outcomes-number
bounds-outcomes-number g c = grind (arith, common_steps)

pub outcome_of-outcome-requires : goal.outcome_of-outcome-requires
outcome_of-outcome-requires g c =
    let next = next_at c.args.jobs.items _ _ _ c.in-Some.job c.loop-job.invariant.rest c.in-Some.ensures.steps.0 in (
      c.type_bounds.sync-G,
      found_fits c.args.jobs.items c.loop-job.outcomes _ c.len-number.result c.in-Some.job c.index-outcomes-number.result c.take.result
          c.loop-job.invariant.outcomes c.len-number.ensures
          (omega (arith, next.below, c.loop-job.invariant.len)) c.index-outcomes-number.is (c.take.ensures.value
          ∙ sym c.index-outcomes-number.is) next.here,
    )

pub push_reserved-requires : goal.push_reserved-requires
push_reserved-requires g c = grind (arith, common_steps)

pub loop-job-preserved : goal.loop-job-preserved
loop-job-preserved g c =
    let next = next_at c.args.jobs.items _ _ _ c.in-Some.job c.loop-job.invariant.rest c.in-Some.ensures.steps.0 in
    record {
      len = length-set c.loop-job.outcomes c.len-number.result c.take.new.self ∙ c.loop-job.invariant.len;
      outcomes = rw c.take.ensures.after (outcomes_set c.args.jobs.items c.loop-job.outcomes c.len-number.result None
          c.loop-job.invariant.outcomes tt);
      rest = rw (c.push_reserved.ensures.len, add-one) next.behind;
      within = omega (arith, next.below, c.push_reserved.ensures.len);
      room = c.push_reserved.ensures.capacity ∙ c.loop-job.invariant.room;
      so_far = rw (c.push_reserved.ensures.len, add-one, c.push_reserved.ensures.items, next.front)
          (all_zipped_more IsVerdictOn _ _ _ _ c.loop-job.invariant.so_far c.verdict.ensures);
    }

pub verdict-requires : goal.verdict-requires
verdict-requires g c = c.outcome_of-outcome.ensures

pub returns : goal.returns
returns g c = grind (arith, common_steps)
