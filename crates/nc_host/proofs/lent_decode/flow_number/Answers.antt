use Rattle.std.proofs.Common.{ap, sym}
use Rattle.nc_host.specs.Shown.{flow_number}
use Rattle.nc_host.proofs.lent_decode.flow_number.Goals as goal

pub returns-in-Call : goal.returns-in-Call
returns-in-Call c = ap flow_number (sym c.in-Call.is)
