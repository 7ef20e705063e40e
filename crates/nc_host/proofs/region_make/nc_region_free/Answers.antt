use Rattle.std.proofs.Common.{rules}
use Rattle.nc_host.proofs.region_make.nc_region_free.Goals as goal

pub returns : goal.returns
returns c = search rules
