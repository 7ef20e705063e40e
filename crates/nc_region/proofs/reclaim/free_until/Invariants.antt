use Rattle.std.proofs.Common.{◌≡◌, length}
use Rattle.nc_region.specs.machinery.Freeing.{AreFreed}
use Rattle.nc_region.proofs.reclaim.free_until.Given as goal

abbrev pub invariant-loop-least : goal.invariant-loop-least
invariant-loop-least g l = record {
  freed : AreFreed l.least l.initial.chunks l.chunks (g.A.Acts.marked l.initial.acts) (g.A.Acts.marked l.acts) (g.A.Acts.logged l.initial.acts) (g.A.Acts.logged l.acts);
  room : length l.room ≡ length l.initial.room;
  made : g.A.Acts.made l.acts ≡ g.A.Acts.made l.initial.acts;
  keeper : g.A.Acts.keeper l.acts ≡ g.A.Acts.keeper l.initial.acts;
}

abbrev pub decreases-loop-least : goal.decreases-loop-least
decreases-loop-least g l = length l.chunks
