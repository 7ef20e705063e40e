use Rattle.nc_command.proofs.options.number.Goals as goal
use Rattle.std.proofs.Common.{rules}

pub returns-clause-most : goal.returns-clause-most
returns-clause-most c = search rules
