use Rattle.nc_command.proofs.carrying.start.Goals as goal
use Rattle.std.proofs.Common.{rules}

pub returns-in-Err-clause-words : goal.returns-in-Err-clause-words
returns-in-Err-clause-words g c = search rules
