use Rattle.std.proofs.Common.{arith}
use Rattle.std.proofs.lemmas.Grind.{common_steps}
use Rattle.std.proofs.lemmas.Result.{IfOk-from_err}
use Rattle.nc_files.proofs.parts.part_of.Goals as goal

pub labels_of-requires-clause-ascending : goal.labels_of-requires-clause-ascending
labels_of-requires-clause-ascending c = grind (arith, common_steps)

pub returns-in_err-labels-clause-name : goal.returns-in_err-labels-clause-name
returns-in_err-labels-clause-name c = IfOk-from_err _ _ c.from_residual-in_err-labels.ensures.0

pub returns-in_err-labels-clause-labels : goal.returns-in_err-labels-clause-labels
returns-in_err-labels-clause-labels c = IfOk-from_err _ _ c.from_residual-in_err-labels.ensures.0
