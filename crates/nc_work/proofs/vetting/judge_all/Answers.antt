use Rattle.std.proofs.Common.{rules}
use Rattle.nc_work.specs.Outcomes.{FitsJob}
use Rattle.nc_work.proofs.Places.{places_hold}
use Rattle.nc_work.proofs.vetting.judge_all.Goals as goal

pub returns-clause-outcomes : goal.returns-clause-outcomes
returns-clause-outcomes g c = record {
  each = places_hold _ _ (FitsJob c.args.jobs.now) (λ k. tt) (λ k outcome before after called. search rules) _ c.in_ok-outcomes.ensures.each;
}
