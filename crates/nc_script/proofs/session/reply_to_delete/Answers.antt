use Rattle.std.proofs.lemmas.Result.{on_ok_weaker}
use Rattle.nc_output.specs.Verdicts.{with_line_end, refused_words}
use Rattle.nc_script.specs.Replies.{deletion_words, stamp_reply}
use Rattle.nc_script.proofs.serving.ChunkRequests.{deleted_follows, undeleted_follows}
use Rattle.nc_script.proofs.session.reply_to_delete.Goals as goal

pub returns-in-Ok-clause-follows : goal.returns-in-Ok-clause-follows
returns-in-Ok-clause-follows g c =
    on_ok_weaker c.push_stamp.result
    (λ e. (
      with_line_end (stamp_reply c.in-Ok.stamp),
      e,
      deleted_follows c.args.region.now c.delete.new.self c.args.base c.in-Ok.stamp c.requires c.in-Ok.ensures.deleted,
    ))
    c.push_stamp.ensures

pub returns-in-Err-clause-follows : goal.returns-in-Err-clause-follows
returns-in-Err-clause-follows g c =
    on_ok_weaker c.push_delete_fault.result
    (λ e. (
      with_line_end (refused_words (deletion_words c.in-Err.fault)),
      e,
      undeleted_follows c.args.region.now c.delete.new.self c.args.base c.in-Err.fault c.in-Err.ensures.refused c.in-Err.ensures.unchanged,
    ))
    c.push_delete_fault.ensures
