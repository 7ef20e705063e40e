use Rattle.std.proofs.Common.{[]}
use Rattle.nc_files.proofs.PlacedReports.{report_fits}
use Rattle.nc_files.proofs.working.judge_next.Goals as goal

pub returns-in-Some : goal.returns-in-Some
returns-in-Some g c =
    report_fits c.args.request.now c.args.files.now c.args.number (record { ref_ptr = (0, 0); now = [] }) c.in-Some.report c.requires
    c.in-Some.ensures
