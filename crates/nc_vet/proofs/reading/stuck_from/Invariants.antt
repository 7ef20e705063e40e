use Rattle.std.proofs.Common.{◌≤◌, ◌-◌, length}
use Rattle.nc_vet.specs.machinery.Steps.{HasReadTo}
use Rattle.nc_vet.proofs.reading.stuck_from.Given as goal

abbrev pub invariant-loop-at : goal.invariant-loop-at
invariant-loop-at l = record { in_code : l.at ≤ length l.code; so_far : HasReadTo l.code l.at l.masked }

abbrev pub decreases-loop-at : goal.decreases-loop-at
decreases-loop-at l = length l.code - l.at
