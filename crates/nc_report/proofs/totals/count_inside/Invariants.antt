-- No more bundles than so far are counted.
use Rattle.std.proofs.Common.{◌≤◌}
use Rattle.nc_report.proofs.totals.count_inside.Given as goal

abbrev pub invariant-loop-n : goal.invariant-loop-n
invariant-loop-n l = l.inside ≤ l.n
