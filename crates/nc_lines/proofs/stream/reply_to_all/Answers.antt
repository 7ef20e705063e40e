use Rattle.std.proofs.Common.{rules}
use Rattle.nc_lines.proofs.stream.reply_to_all.Goals as goal

pub returns : goal.returns
returns g c = search rules
