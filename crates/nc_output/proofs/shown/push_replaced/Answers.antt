use Rattle.std.proofs.Common.{arith}
use Rattle.std.proofs.lemmas.Grind.{common_steps}
use Rattle.std.proofs.lemmas.Result.{IfOk-from_err}
use Rattle.nc_output.proofs.shown.push_replaced.Goals as goal

pub returns-in_err-push_one : goal.returns-in_err-push_one
returns-in_err-push_one c = IfOk-from_err _ _ c.from_residual.ensures.0

pub loop-byte-preserved : goal.loop-byte-preserved
loop-byte-preserved c = grind (arith, common_steps)

pub returns : goal.returns
returns c = grind (arith, common_steps)
