-- The run so far ends in the bundle.
use Rattle.std.proofs.Common.{◌≤◌, ◌-◌}
use Rattle.nc_report.proofs.listing.run_end.Given as goal

abbrev pub invariant-loop-last : goal.invariant-loop-last
invariant-loop-last l = (l.end ≤ l.last) × (l.last ≤ 32)

abbrev pub decreases-loop-last : goal.decreases-loop-last
decreases-loop-last l = 32 - l.last
