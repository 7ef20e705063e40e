use Rattle.nc_lines.specs.Lines.{lines_of}
use Rattle.nc_lines.proofs.Steps.{replied_kept, begun_whole}
use Rattle.nc_lines.proofs.stream.finish.Goals as goal

pub returns-in-Err-clause-finishes : goal.returns-in-Err-clause-finishes
returns-in-Err-clause-finishes g c = λ start before bytes s. c.in-Err.ensures.finishes start before bytes s

pub returns-in-Ok-flush-clause-finishes : goal.returns-in-Ok-flush-clause-finishes
returns-in-Ok-flush-clause-finishes g c = λ start before bytes s.
    replied_kept g.S.Responder.replies start _ before _ _ (lines_of bytes) (c.in-Ok.ensures.finishes start before bytes s) c.flush.ensures.bytes

pub returns-in-Err-flush-clause-finishes : goal.returns-in-Err-flush-clause-finishes
returns-in-Err-flush-clause-finishes g c = λ start before bytes s.
    begun_whole g.S.Responder.replies start before c.reply_to_rest.new.responder _ (lines_of bytes)
    (replied_kept g.S.Responder.replies start _ before _ _ (lines_of bytes)
    (c.in-Ok.ensures.finishes start before bytes s) c.flush.ensures.bytes)
