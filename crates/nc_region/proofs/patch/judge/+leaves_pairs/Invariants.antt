use Rattle.std.proofs.Common.{length}
use Rattle.nc_region.proofs.patch.judge.+leaves_pairs.Given as goal

abbrev pub decreases-leaves_pairs : goal.decreases-leaves_pairs
decreases-leaves_pairs g l = length l.new.now
