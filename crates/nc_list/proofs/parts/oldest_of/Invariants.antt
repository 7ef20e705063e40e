use Rattle.std.proofs.Common.{map, take}
use Rattle.nc_list.specs.Stamps.{AreSince}
use Rattle.nc_list.specs.Parts.{all_of}
use Rattle.nc_list.proofs.parts.oldest_of.Given as goal

abbrev pub invariant-loop-k : goal.invariant-loop-k
invariant-loop-k g l = AreSince l.low (all_of (take l.k (map g.T.Part.items l.parts)))
