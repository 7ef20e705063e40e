use Rattle.std.proofs.Common.{◌≡◌, ◌≤◌, ◌+◌, ◌-◌, length, count_ones}
use Rattle.nc_vet.specs.machinery.Lists.{HasAdded}
use Rattle.nc_vet.proofs.lists.add_rest.Given as goal

abbrev pub invariant-loop-left : goal.invariant-loop-left
invariant-loop-left l = record {
  added : HasAdded l.initial.list l.list l.start l.from l.bits (l.end - l.start) l.left;
  low : l.start ≤ l.end;
  high : l.end ≤ l.start + count_ones l.bits;
  few : count_ones l.bits ≤ 64;
  long : length l.list ≡ 256;
}

abbrev pub decreases-loop-left : goal.decreases-loop-left
decreases-loop-left l = count_ones l.left
