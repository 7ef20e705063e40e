use Rattle.std.proofs.Common.{arith}
use Rattle.std.proofs.lemmas.Grind.{common_steps}
use Rattle.std.proofs.lemmas.Result.{IfOk-from_err}
use Rattle.nc_script.proofs.reply.push_chunk.Goals as goal

pub returns-in_err-push : goal.returns-in_err-push
returns-in_err-push g c = IfOk-from_err _ _ c.from_residual.ensures.0

pub returns-in_err-push_number-in-Retired : goal.returns-in_err-push_number-in-Retired
returns-in_err-push_number-in-Retired g c = IfOk-from_err _ _ c.from_residual-in_err-push_number-in-Retired.ensures.0

pub returns-in_err-push-in-Retired : goal.returns-in_err-push-in-Retired
returns-in_err-push-in-Retired g c = IfOk-from_err _ _ c.from_residual-in_err-push-in-Retired.ensures.0

pub returns-in_ok-extend_from_slice-in-Live : goal.returns-in_ok-extend_from_slice-in-Live
returns-in_ok-extend_from_slice-in-Live g c = grind (arith, common_steps)

pub returns-in_ok-push-in-Retired : goal.returns-in_ok-push-in-Retired
returns-in_ok-push-in-Retired g c = grind (arith, common_steps)
