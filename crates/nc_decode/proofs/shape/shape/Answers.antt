use Rattle.std.proofs.Common.{arith}
use Rattle.std.proofs.lemmas.Grind.{common_steps}
use Rattle.nc_decode.proofs.shape.shape.Goals as goal

pub returns-in-len3-up-clause-shape : goal.returns-in-len3-up-clause-shape
returns-in-len3-up-clause-shape c = grind (arith, common_steps)
