use Rattle.std.proofs.Common.{rules}
use Rattle.nc_region.proofs.region.RegionOf.mark.Goals as goal

pub returns : goal.returns
returns g c = search rules

pub mark-requires : goal.mark-requires
mark-requires g c = search rules
