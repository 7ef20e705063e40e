use Rattle.std.proofs.Common.{arith}
use Rattle.std.proofs.lemmas.Grind.{common_steps}
use Rattle.nc_files.proofs.labelling.names_by.Goals as goal

pub returns-clause-symbols : goal.returns-clause-symbols
returns-clause-symbols c = grind (arith, common_steps)
