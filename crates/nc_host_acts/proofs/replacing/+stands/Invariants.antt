use Rattle.std.proofs.Common.{length}
use Rattle.nc_host_acts.proofs.replacing.+stands.Given as goal

abbrev pub decreases-stands : goal.decreases-stands
decreases-stands l = length l.bytes.now
