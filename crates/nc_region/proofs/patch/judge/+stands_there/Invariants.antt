use Rattle.std.proofs.Common.{length}
use Rattle.nc_region.proofs.patch.judge.+stands_there.Given as goal

abbrev pub decreases-stands_there : goal.decreases-stands_there
decreases-stands_there g l = length l.bytes.now
