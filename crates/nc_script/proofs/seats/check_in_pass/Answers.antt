use Rattle.std.proofs.Common.{arith}
use Rattle.std.proofs.lemmas.Grind.{elements}
use Rattle.nc_script.proofs.seats.check_in_pass.Goals as goal

pub returns-clause-checked : goal.returns-clause-checked
returns-clause-checked g c = grind (arith, elements)
