-- Each lane has read the first bytes of its bundle.
use Rattle.std.proofs.Common.{◌+◌}
use Rattle.nc_vet.specs.States.{bundle_bytes}
use Rattle.nc_vet.specs.machinery.Running.{LaneHasRead}
use Rattle.nc_vet.proofs.lane.run_two.Given as goal

abbrev pub invariant-loop-i : goal.invariant-loop-i
invariant-loop-i l = record {
  a : LaneHasRead (bundle_bytes l.code l.at) l.i l.a.state l.a.states;
  b : LaneHasRead (bundle_bytes l.code (l.at + 32)) l.i l.b.state l.b.states;
}
