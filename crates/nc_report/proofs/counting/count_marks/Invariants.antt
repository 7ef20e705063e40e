-- The places so far are counted.
use Rattle.std.proofs.Common.{◌≡◌, ◌≤◌, take, sum_by}
use Rattle.nc_report.specs.machinery.Counts.{count_mark}
use Rattle.nc_report.proofs.counting.count_marks.Given as goal

abbrev pub invariant-loop-i : goal.invariant-loop-i
invariant-loop-i l = (l.count ≡ sum_by count_mark (take l.i l.chunk.marks)) × (l.count ≤ l.i)
