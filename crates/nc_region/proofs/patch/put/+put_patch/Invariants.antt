use Rattle.std.proofs.Common.{length}
use Rattle.nc_region.proofs.patch.put.+put_patch.Given as goal

abbrev pub decreases-put_patch : goal.decreases-put_patch
decreases-put_patch g l = length l.new.now
