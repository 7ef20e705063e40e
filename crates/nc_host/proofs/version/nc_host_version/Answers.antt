use Rattle.std.proofs.Common.{refl}
use Rattle.nc_host.proofs.version.nc_host_version.Goals as goal

pub returns : goal.returns
returns c = record { version = refl }
