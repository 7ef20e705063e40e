use Rattle.std.proofs.Common.{length}
use Rattle.nc_host_acts.proofs.replacing.+write_patch.Given as goal

abbrev pub decreases-write_patch : goal.decreases-write_patch
decreases-write_patch l = length l.new.now
