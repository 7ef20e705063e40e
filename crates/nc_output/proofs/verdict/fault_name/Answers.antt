use Rattle.nc_output.proofs.verdict.fault_name.Goals as goal
use Rattle.std.proofs.Common.{rules}

pub returns-in-Bare-clause-named : goal.returns-in-Bare-clause-named
returns-in-Bare-clause-named c = search rules
