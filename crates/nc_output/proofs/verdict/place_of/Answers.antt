use Rattle.nc_output.proofs.verdict.place_of.Goals as goal
use Rattle.std.proofs.Common.{rules}

pub returns-in-BadTarget : goal.returns-in-BadTarget
returns-in-BadTarget c = search rules
