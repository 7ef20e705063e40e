use Rattle.nc_report.proofs.JsonShown.{json_shown}
use Rattle.nc_report.proofs.law.law_of_objects.Goals as goal

pub returns : goal.returns
returns c = json_shown
