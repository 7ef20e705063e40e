use Rattle.std.proofs.Common.{rules}
use Rattle.nc_decode.proofs.instruction.Flow.is_indirect.Goals as goal

pub returns-in_default : goal.returns-in_default
returns-in_default c = search rules
