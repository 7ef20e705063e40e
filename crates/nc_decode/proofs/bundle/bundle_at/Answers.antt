use Rattle.std.proofs.Common.{refl}
use Rattle.nc_decode.proofs.bundle.bundle_at.Goals as goal

pub returns-then-n-bundles : goal.returns-then-n-bundles
returns-then-n-bundles c = refl
