use Rattle.std.proofs.Common.{refl}
use Rattle.nc_output.proofs.shown.is_shown.Goals as goal

pub returns : goal.returns
returns c = refl
