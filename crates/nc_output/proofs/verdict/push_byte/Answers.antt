use Rattle.nc_output.proofs.verdict.push_byte.Goals as goal
use Rattle.std.proofs.Common.{rules}

pub returns : goal.returns
returns c = search rules
