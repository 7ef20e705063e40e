-- What the instructions so far send outside is known.
use Rattle.std.proofs.Common.{◌≤◌, ◌-◌, length}
use Rattle.nc_report.specs.machinery.Runs.{HasReadCode}
use Rattle.nc_report.proofs.outside.all_sent.Given as goal

abbrev pub invariant-loop-at : goal.invariant-loop-at
invariant-loop-at l = (l.at ≤ length l.code) × HasReadCode l.base l.code l.at l.sent.items

abbrev pub decreases-loop-at : goal.decreases-loop-at
decreases-loop-at l = length l.code - l.at
