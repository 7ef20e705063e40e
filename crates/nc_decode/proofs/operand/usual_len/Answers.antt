use Rattle.std.proofs.Common.{arith}
use Rattle.nc_decode.proofs.opcodes.OperandTable.{operand_at}
use Rattle.nc_decode.proofs.operand.usual_len.Goals as goal

pub returns : goal.returns
returns c = operand_at c.args.modrm _ (omega arith)
