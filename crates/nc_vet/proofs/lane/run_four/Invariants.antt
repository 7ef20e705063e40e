-- Each lane has read the first bytes of its bundle.
use Rattle.std.proofs.Common.{get_or}
use Rattle.nc_vet.specs.States.{bundle_bytes}
use Rattle.nc_vet.specs.machinery.Running.{LaneHasRead}
use Rattle.nc_vet.proofs.lane.run_four.Given as goal

abbrev pub invariant-loop-i : goal.invariant-loop-i
invariant-loop-i l = record {
  a : LaneHasRead (bundle_bytes l.code (get_or l.at 0 0)) l.i l.a.state l.a.states;
  b : LaneHasRead (bundle_bytes l.code (get_or l.at 1 0)) l.i l.b.state l.b.states;
  c : LaneHasRead (bundle_bytes l.code (get_or l.at 2 0)) l.i l.c.state l.c.states;
  d : LaneHasRead (bundle_bytes l.code (get_or l.at 3 0)) l.i l.d.state l.d.states;
}
