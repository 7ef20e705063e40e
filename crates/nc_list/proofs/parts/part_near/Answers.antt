use Rattle.std.proofs.Common.{arith}
use Rattle.std.proofs.lemmas.Grind.{common_steps}
use Rattle.nc_list.proofs.parts.part_near.Goals as goal

pub returns-then-begin_above : goal.returns-then-begin_above
returns-then-begin_above g c = grind (arith, common_steps)
