use Rattle.std.proofs.Common.{rules}
use Rattle.nc_region.proofs.region.RegionOf.chunk.Goals as goal

pub returns : goal.returns
returns g c = search rules
