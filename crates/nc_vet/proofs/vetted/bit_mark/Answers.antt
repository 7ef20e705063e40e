use Rattle.std.proofs.Common.{arith}
use Rattle.std.proofs.lemmas.Grind.{common_steps}
use Rattle.nc_vet.proofs.vetted.bit_mark.Goals as goal

pub returns-then-from-k-eq1 : goal.returns-then-from-k-eq1
returns-then-from-k-eq1 c = grind (arith, common_steps)

pub returns-then-bundle-k-eq1 : goal.returns-then-bundle-k-eq1
returns-then-bundle-k-eq1 c = grind (arith, common_steps)

pub returns-else-bundle-k-eq1 : goal.returns-else-bundle-k-eq1
returns-else-bundle-k-eq1 c = grind (arith, common_steps)
