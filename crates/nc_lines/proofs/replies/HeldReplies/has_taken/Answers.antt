use Rattle.std.proofs.Common.{rules}
use Rattle.nc_lines.proofs.replies.HeldReplies.has_taken.Goals as goal

pub invariant_of-self : goal.invariant_of-self
invariant_of-self c = search rules
