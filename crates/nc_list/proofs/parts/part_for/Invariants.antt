use Rattle.std.proofs.Common.{◌<◌, ◌≤◌, ◌-◌, length, take, drop, map}
use Rattle.nc_list.specs.Chunks.{IsAboveAll}
use Rattle.nc_list.specs.Parts.{BeginAbove, all_of}
use Rattle.nc_list.proofs.parts.part_for.Given as goal

abbrev pub invariant-loop-high : goal.invariant-loop-high
invariant-loop-high g l = record {
  order : (l.low < l.high) × (l.high ≤ length l.parts);
  below : IsAboveAll l.at (all_of (take l.low (map g.T.Part.items l.parts)));
  above : BeginAbove l.at (all_of (drop l.high (map g.T.Part.items l.parts)));
}

abbrev pub decreases-loop-high : goal.decreases-loop-high
decreases-loop-high g l = l.high - l.low
