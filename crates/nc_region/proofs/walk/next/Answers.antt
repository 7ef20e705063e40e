use Rattle.std.proofs.Common.{rules}
use Rattle.nc_region.proofs.walk.next.Goals as goal

pub returns-in-Next-clause-moves : goal.returns-in-Next-clause-moves
returns-in-Next-clause-moves c = search rules
