use Rattle.std.specs.Prelude.{◌≡◌, ◌≤◌, length, take, drop, vec_len, vec_capacity}
use Rattle.std.specs.List.{AllZip}
use Rattle.std.specs.Vec.Iter.{into_iter_items}
use Rattle.nc_work.specs.Verdicts.{IsVerdictOn}
use Rattle.nc_work.specs.Outcomes.{AreOutcomes}
use Rattle.nc_work.proofs.vetting.conclude.Given as goal

abbrev pub invariant-loop-job : goal.invariant-loop-job
invariant-loop-job g l =
    let jobs = l.fn.jobs.items in
    let n = vec_len l.verdicts in
    record {
      len : length l.outcomes ≡ length jobs;
      outcomes : AreOutcomes jobs l.outcomes;
      rest : into_iter_items l.job-iterator ≡ drop n jobs;
      within : n ≤ length jobs;
      room : vec_capacity l.verdicts ≡ length jobs;
      so_far : AllZip IsVerdictOn (take n jobs) l.verdicts.items;
    }
