use Rattle.std.proofs.Common.{length}
use Rattle.nc_region.proofs.patch.judge.+keeps_targets.Given as goal

abbrev pub decreases-keeps_targets : goal.decreases-keeps_targets
decreases-keeps_targets g l = length l.new.now
