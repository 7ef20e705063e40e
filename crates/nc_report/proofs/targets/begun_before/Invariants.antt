-- The place isn't after the one asked for.
use Rattle.std.proofs.Common.{◌≤◌}
use Rattle.nc_report.proofs.targets.begun_before.Given as goal

abbrev pub invariant-loop-at : goal.invariant-loop-at
invariant-loop-at l = l.at ≤ l.k

abbrev pub decreases-loop-at : goal.decreases-loop-at
decreases-loop-at l = l.at
