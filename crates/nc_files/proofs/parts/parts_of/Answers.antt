use Rattle.std.proofs.Common.{arith}
use Rattle.std.proofs.lemmas.Grind.{common_steps}
use Rattle.nc_files.proofs.parts.parts_of.Goals as goal

pub returns-in_default-clause-fault : goal.returns-in_default-clause-fault
returns-in_default-clause-fault c = grind (arith, common_steps)

pub returns-in-Ok-list_parts-clause-well_formed : goal.returns-in-Ok-list_parts-clause-well_formed
returns-in-Ok-list_parts-clause-well_formed c = grind (arith, common_steps)

pub returns-clause-fault : goal.returns-clause-fault
returns-clause-fault c = grind (arith, common_steps)
