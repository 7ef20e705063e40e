use Rattle.std.proofs.Common.{arith}
use Rattle.std.proofs.lemmas.Grind.{common_steps}
use Rattle.nc_report.proofs.outside.push_calls.Goals as goal

pub returns-in_ok-push_text-in-Json-2 : goal.returns-in_ok-push_text-in-Json-2
returns-in_ok-push_text-in-Json-2 c = grind (arith, common_steps)
