use Rattle.nc_report.proofs.OneWay.{one_way}
use Rattle.nc_report.proofs.law.law_of_readings.Goals as goal

pub returns : goal.returns
returns c = one_way
