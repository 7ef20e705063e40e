use Rattle.std.proofs.Common.{◌≡◌, length}
use Rattle.nc_vet.specs.machinery.Lists.{HasAdded}
use Rattle.nc_vet.proofs.lists.add_usual.Given as goal

abbrev pub invariant-loop-i : goal.invariant-loop-i
invariant-loop-i l = record {
  added : HasAdded l.initial.list l.list l.start l.from l.bits l.i l.left;
  long : length l.list ≡ 256;
}
