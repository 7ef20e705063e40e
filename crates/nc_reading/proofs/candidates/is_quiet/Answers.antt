use Rattle.std.proofs.Common.{rules}
use Rattle.nc_reading.proofs.candidates.is_quiet.Goals as goal

pub returns : goal.returns
returns c = search rules
