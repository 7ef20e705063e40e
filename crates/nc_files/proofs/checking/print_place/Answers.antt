use Rattle.std.proofs.lemmas.Result.{on_ok_weaker}
use Rattle.std.proofs.Common.{subst}
use Rattle.nc_files.specs.Reports.{FitsFile}
use Rattle.nc_files.proofs.PrintedFiles.{printed_report}
use Rattle.nc_files.proofs.checking.print_place.Goals as goal

pub returns-in-Some : goal.returns-in-Some
returns-in-Some g c =
    let (code, reported) = subst (FitsFile c.args.request.now c.args.file.now) c.in-Some.is c.requires in
    on_ok_weaker c.print.result
    (λ written. printed_report c.args.request.now c.args.file code c.in-Some.report.is_refused _ _ _ _
    (record { text = c.in-Some.report.text.items; says = reported; written = written }) c.print.ensures.faulty c.print.ensures.refused)
    c.print.ensures.text
