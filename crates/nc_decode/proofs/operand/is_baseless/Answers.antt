use Rattle.std.proofs.Common.{refl}
use Rattle.nc_decode.proofs.operand.is_baseless.Goals as goal

pub returns : goal.returns
returns c = refl
