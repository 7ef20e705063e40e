use Rattle.std.proofs.Common.{arith}
use Rattle.std.proofs.lemmas.Grind.{common_steps}
use Rattle.nc_text.proofs.change.StopsChange.make.Goals as goal

pub returns-clause-marks : goal.returns-clause-marks
returns-clause-marks c = grind (arith, common_steps)

pub returns-clause-other_marks : goal.returns-clause-other_marks
returns-clause-other_marks c = grind (arith, common_steps)
