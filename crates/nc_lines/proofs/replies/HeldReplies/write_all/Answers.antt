use Rattle.std.proofs.Common.{rules}
use Rattle.nc_lines.proofs.replies.HeldReplies.write_all.Goals as goal

pub returns-in-Ok-clause-all : goal.returns-in-Ok-clause-all
returns-in-Ok-clause-all g c = search rules
