use Rattle.std.proofs.Common.{◌≡◌, [], length, map, take}
use Rattle.nc_list.specs.Chunks.{freed}
use Rattle.nc_list.specs.Parts.{all_of}
use Rattle.nc_list.proofs.parts.take_one.Given as goal

abbrev pub invariant-loop-k : goal.invariant-loop-k
invariant-loop-k g l = record {
  same : map g.T.Part.items l.parts.items ≡ map g.T.Part.items l.initial.parts.items;
  room : length l.room ≡ length l.initial.room;
  earlier : freed l.least (all_of (take l.k (map g.T.Part.items l.initial.parts.items))) ≡ [];
}
