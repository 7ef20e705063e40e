use Rattle.nc_command.proofs.halt.Halt.status.Goals as goal
use Rattle.std.proofs.Common.{rules}

pub returns-in-Fault : goal.returns-in-Fault
returns-in-Fault c = search rules
