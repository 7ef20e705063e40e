use Rattle.std.proofs.Common.{rules}
use Rattle.nc_decode.proofs.bundles.is_bundle_start.Goals as goal

pub returns : goal.returns
returns c = search rules
