use Rattle.nc_decode.proofs.instruction.Instr.target.Goals as goal
use Rattle.std.proofs.Common.{rules}

pub returns : goal.returns
returns c = search rules
