use Rattle.std.proofs.Common.{rules}
use Rattle.nc_lines.proofs.words.address_of.Goals as goal

pub returns-then-decode : goal.returns-then-decode
returns-then-decode c = search rules
