use Rattle.std.proofs.Common.{ap, sym}
use Rattle.nc_host.specs.Shown.{mark_number}
use Rattle.nc_host.proofs.lent_marks.mark_number.Goals as goal

pub returns-in-Plain : goal.returns-in-Plain
returns-in-Plain c = ap mark_number (sym c.in-Plain.is)
