use Rattle.std.proofs.Common.{rules}
use Rattle.nc_lines.proofs.replies.Replies.clear_reply.Goals as goal

pub returns-else-capacity-gt-KEPT_ROOM-clause-reply : goal.returns-else-capacity-gt-KEPT_ROOM-clause-reply
returns-else-capacity-gt-KEPT_ROOM-clause-reply c = search rules

pub returns-else-capacity-gt-KEPT_ROOM-clause-room : goal.returns-else-capacity-gt-KEPT_ROOM-clause-room
returns-else-capacity-gt-KEPT_ROOM-clause-room c = search rules
