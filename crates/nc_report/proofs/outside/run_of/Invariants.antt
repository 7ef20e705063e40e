-- The numbers so far are the same.
use Rattle.std.proofs.Common.{◌≡◌, ◌<◌, ◌≤◌, ◌-◌, length, take, replicate, get_or}
use Rattle.nc_report.proofs.outside.run_of.Given as goal

abbrev pub invariant-loop-count : goal.invariant-loop-count
invariant-loop-count l =
    (0 < l.count) × (l.count ≤ length l.numbers) × (take l.count l.numbers ≡ replicate l.count (get_or l.numbers 0 0))

abbrev pub decreases-loop-count : goal.decreases-loop-count
decreases-loop-count l = length l.numbers - l.count
