use Rattle.std.proofs.Common.{refl}
use Rattle.nc_disasm.proofs.naming.is_printable.Goals as goal

pub returns : goal.returns
returns c = refl
