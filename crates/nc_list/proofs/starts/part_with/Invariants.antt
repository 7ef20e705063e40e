use Rattle.std.proofs.Common.{◌<◌, ◌≤◌, ◌-◌, length, get_or}
use Rattle.nc_list.proofs.starts.part_with.Given as goal

abbrev pub invariant-loop-high : goal.invariant-loop-high
invariant-loop-high l = record {
  order : (l.low < l.high) × (l.high ≤ length l.starts);
  start : get_or l.starts l.low 0 ≤ l.i;
  end : l.high < length l.starts → l.i < get_or l.starts l.high 0;
}

abbrev pub decreases-loop-high : goal.decreases-loop-high
decreases-loop-high l = l.high - l.low
