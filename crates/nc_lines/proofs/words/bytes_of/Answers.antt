use Rattle.std.proofs.Common.{arith}
use Rattle.std.proofs.lemmas.Grind.{common_steps}
use Rattle.nc_lines.proofs.words.bytes_of.Goals as goal

pub returns-then-decode : goal.returns-then-decode
returns-then-decode c = grind (arith, common_steps)
