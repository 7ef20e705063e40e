use Rattle.std.proofs.Common.{rules}
use Rattle.nc_report.proofs.others.write_much.Goals as goal

pub returns-clause-ok : goal.returns-clause-ok
returns-clause-ok g c = search rules
