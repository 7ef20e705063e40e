use Rattle.nc_report.specs.Report.{about_all, Shows}
use Rattle.nc_report.proofs.Additions.{adds_none}
use Rattle.nc_report.proofs.FurtherTexts.{none_shown}
use Rattle.nc_report.proofs.totals.push_note.Goals as goal

pub returns-then-inside-bundles : goal.returns-then-inside-bundles
returns-then-inside-bundles c = adds_none (Shows about_all c.args.format) c.args.out.now.items (none_shown about_all c.args.format)
