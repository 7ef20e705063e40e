use Rattle.std.proofs.Common.{rules}
use Rattle.nc_decode.proofs.instruction.mark_bit.Goals as goal

pub returns-in-Unmarked : goal.returns-in-Unmarked
returns-in-Unmarked c = search rules

pub returns-in-Plain : goal.returns-in-Plain
returns-in-Plain c = search rules
