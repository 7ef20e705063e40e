use Rattle.std.proofs.Common.{arith}
use Rattle.std.proofs.lemmas.Grind.{common_steps}
use Rattle.nc_list.proofs.leaf.LeafPart.split.Goals as goal

pub returns-clause-ok : goal.returns-clause-ok
returns-clause-ok c =
    record { was = grind (arith, common_steps); lower_some = grind (arith, common_steps); upper_some = grind (arith, common_steps) }
