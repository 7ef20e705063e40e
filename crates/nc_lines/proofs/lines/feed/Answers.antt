use Rattle.std.proofs.Common.{◌++◌}
use Rattle.nc_lines.proofs.Steps.{stands_written, begun_here}
use Rattle.nc_lines.proofs.lines.feed.Goals as goal

pub returns-in-Ok-write_all-clause-feeds : goal.returns-in-Ok-write_all-clause-feeds
returns-in-Ok-write_all-clause-feeds g c = λ start before bytes s.
    stands_written g.S.Responder.replies start before (bytes ++ c.args.piece.now) _ _ _ _ _ _
    (c.in-Ok.ensures.feeds start before bytes s) c.in-Ok-write_all.ensures.all c.in-Ok-write_all.ensures.none

pub returns-in-Err-write_all-clause-feeds : goal.returns-in-Err-write_all-clause-feeds
returns-in-Err-write_all-clause-feeds g c = λ start before bytes s more.
    begun_here g.S.Responder.replies start before (bytes ++ c.args.piece.now) _ _ _ _ _ more
    (c.in-Ok.ensures.feeds start before bytes s) c.in-Err-write_all.ensures.front
