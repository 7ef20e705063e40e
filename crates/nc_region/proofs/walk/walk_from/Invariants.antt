use Rattle.std.proofs.Common.{take}
use Rattle.nc_text.specs.Machine.{state}
use Rattle.nc_region.proofs.walking.Walking.{IsUnderWay}
use Rattle.nc_region.proofs.walk.walk_from.Given as goal

abbrev pub invariant-loop-choice : goal.invariant-loop-choice
invariant-loop-choice g l =
    IsUnderWay (g.A.Acts.marked l.acts).bytes (g.A.Acts.marked l.acts).marks l.start (take l.choice-index l.choices) l.places.items
    (state l.now.place l.now.masked)
