use Rattle.std.proofs.lemmas.Result.{on_ok_weaker}
use Rattle.nc_report.proofs.FurtherTexts.{also_object}
use Rattle.nc_report.proofs.others.push_also.Goals as goal

pub returns-in-Text : goal.returns-in-Text
returns-in-Text c = rw c.in-Text.is c.push_lines.ensures

pub returns-in-Json : goal.returns-in-Json
returns-in-Json c = rw c.in-Json.is (on_ok_weaker c.push_fault_object.result (also_object _ _ c.args.fault) c.push_fault_object.ensures)
