use Rattle.std.proofs.Common.{rules}
use Rattle.nc_list.proofs.parts.raised.Goals as goal

pub returns-then-anew : goal.returns-then-anew
returns-then-anew g c = search rules
