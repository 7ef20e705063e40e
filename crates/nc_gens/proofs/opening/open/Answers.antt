use Rattle.std.proofs.Common.{arith}
use Rattle.std.proofs.lemmas.Grind.{common_steps}
use Rattle.nc_gens.proofs.opening.open.Goals as goal

pub invariant_of-keeper : goal.invariant_of-keeper
invariant_of-keeper c = grind (arith, common_steps)
