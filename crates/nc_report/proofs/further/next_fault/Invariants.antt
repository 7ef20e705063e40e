-- The places so far have no fault.
use Rattle.std.proofs.Common.{◌-◌, ◌≤◌, length}
use Rattle.nc_reading.specs.Quiet.{AreCandidates}
use Rattle.nc_report.proofs.QuietPlaces.{AreFaultless}
use Rattle.nc_report.proofs.further.next_fault.Given as goal

abbrev pub invariant-loop-at : goal.invariant-loop-at
invariant-loop-at l = record {
  low : l.from ≤ l.at;
  within : l.at ≤ length l.judged.code.now;
  known : AreCandidates l.judged.code.now l.classes l.seen.at l.seen.bits;
  faultless : AreFaultless l.judged.base l.judged.limit l.judged.code.now l.classes l.from l.at;
}

abbrev pub decreases-loop-at : goal.decreases-loop-at
decreases-loop-at l = length l.judged.code.now - l.at
