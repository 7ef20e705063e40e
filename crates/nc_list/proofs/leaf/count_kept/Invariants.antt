use Rattle.std.proofs.Common.{◌≡◌, [], take}
use Rattle.nc_list.specs.Chunks.{freed}
use Rattle.nc_list.specs.Stamps.{AreSince}
use Rattle.nc_list.proofs.leaf.count_kept.Given as goal

abbrev pub invariant-loop-i : goal.invariant-loop-i
invariant-loop-i l = record {
  none : freed l.least (take l.i l.entries) ≡ [];
  since : AreSince l.low (take l.i l.entries);
}
