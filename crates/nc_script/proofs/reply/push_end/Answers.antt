use Rattle.std.proofs.Common.{arith}
use Rattle.std.proofs.lemmas.Grind.{elements}
use Rattle.nc_script.proofs.reply.push_end.Goals as goal

pub returns-in-Trampoline : goal.returns-in-Trampoline
returns-in-Trampoline c = grind (arith, elements)
