-- A lane has read the first bytes of the bundle.
use Rattle.nc_vet.specs.States.{bundle_bytes}
use Rattle.nc_vet.specs.machinery.Running.{LaneHasRead}
use Rattle.nc_vet.proofs.lane.run_one.Given as goal

abbrev pub invariant-loop-i : goal.invariant-loop-i
invariant-loop-i l = LaneHasRead (bundle_bytes l.code l.at) l.i l.lane.state l.lane.states
