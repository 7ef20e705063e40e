use Rattle.nc_command.proofs.check.request_in.Goals as goal
use Rattle.std.proofs.Common.{rules}

pub returns : goal.returns
returns c = search rules
