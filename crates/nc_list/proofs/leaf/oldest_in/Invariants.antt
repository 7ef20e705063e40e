use Rattle.std.proofs.Common.{take}
use Rattle.nc_list.specs.Stamps.{AreSince}
use Rattle.nc_list.proofs.leaf.oldest_in.Given as goal

abbrev pub invariant-loop-i : goal.invariant-loop-i
invariant-loop-i l = AreSince l.low (take l.i l.entries)
