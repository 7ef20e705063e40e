use Rattle.std.proofs.Common.{◌≡◌, ℕ, List, take, drop}
use Rattle.nc_list.specs.declared.chunk.Chunk.{Chunk}
use Rattle.nc_region.specs.machinery.Freeing.{AreTakenOut, AreUnmarked}
use Rattle.nc_region.proofs.reclaim.unmark_taken.Given as goal

abbrev pub invariant-loop-i : goal.invariant-loop-i
invariant-loop-i g l = record {
  others : (least : ℕ) (left : List Chunk) → AreTakenOut least (g.A.Acts.marked l.initial.acts) left l.taken
      → AreTakenOut least (g.A.Acts.marked l.acts) left (drop l.i l.taken);
  unmarks : AreUnmarked (take l.i l.taken) (g.A.Acts.marked l.initial.acts) (g.A.Acts.marked l.acts) (g.A.Acts.logged l.initial.acts) (g.A.Acts.logged l.acts);
  made : g.A.Acts.made l.acts ≡ g.A.Acts.made l.initial.acts;
  keeper : g.A.Acts.keeper l.acts ≡ g.A.Acts.keeper l.initial.acts;
}
