use Rattle.std.proofs.Common.{ap, sym}
use Rattle.nc_host.specs.Walked.{end_number}
use Rattle.nc_host.proofs.region_walk.end_number.Goals as goal

pub returns-in-Beyond : goal.returns-in-Beyond
returns-in-Beyond c = ap end_number (sym c.in-Beyond.is)
