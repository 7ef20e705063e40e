-- The code is read up to a place.
use Rattle.std.proofs.Common.{◌≤◌, ◌-◌, length}
use Rattle.nc_reading.specs.machinery.Seen.{HasFilled}
use Rattle.nc_reading.proofs.steps.fill_classes.Given as goal

abbrev pub invariant-loop-at : goal.invariant-loop-at
invariant-loop-at l = record {
  in_code : l.at ≤ length l.code;
  so_far : HasFilled l.code l.at l.masked l.classes;
}

abbrev pub decreases-loop-at : goal.decreases-loop-at
decreases-loop-at l = length l.code - l.at
