use Rattle.std.proofs.Common.{arith}
use Rattle.std.proofs.lemmas.Grind.{common_steps}
use Rattle.std.proofs.lemmas.Result.{IfOk-from_err}
use Rattle.nc_files.proofs.parts.segment_name.Goals as goal

pub returns-in_err-push_address-in-Text : goal.returns-in_err-push_address-in-Text
returns-in_err-push_address-in-Text c = IfOk-from_err _ _ c.from_residual-in_err-push_address-in-Text.ensures.0

pub returns : goal.returns
returns c = grind (arith, common_steps)
