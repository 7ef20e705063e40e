use Rattle.std.proofs.Common.{sym, subst, OnOk}
use Rattle.nc_output.specs.Adds.{Adds}
use Rattle.nc_output.specs.declared.detail.Format.{Format}
use Rattle.nc_report.specs.Report.{Opens}
use Rattle.nc_report.proofs.others.push_opening.Goals as goal

pub returns-in-Json : goal.returns-in-Json
returns-in-Json c =
    subst (λ (f : Format). OnOk c.push_fault_object.result (Adds c.args.out.now.items c.push_fault_object.new.out.items (Opens f c.args.fault)))
    (sym c.in-Json.is) c.push_fault_object.ensures
