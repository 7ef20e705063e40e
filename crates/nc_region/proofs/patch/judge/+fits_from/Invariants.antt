use Rattle.std.proofs.Common.{length}
use Rattle.nc_region.proofs.patch.judge.+fits_from.Given as goal

abbrev pub decreases-fits_from : goal.decreases-fits_from
decreases-fits_from g l = length l.new.now
