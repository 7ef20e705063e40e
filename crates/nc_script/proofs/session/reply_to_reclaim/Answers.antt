use Rattle.std.proofs.lemmas.Result.{on_ok_weaker}
use Rattle.nc_output.specs.Verdicts.{with_line_end}
use Rattle.nc_script.specs.Replies.{freed_reply}
use Rattle.nc_script.proofs.seating.Reclaimed.{reclaimed_follows}
use Rattle.nc_script.proofs.session.reply_to_reclaim.Goals as goal

pub returns-clause-follows : goal.returns-clause-follows
returns-clause-follows g c =
    on_ok_weaker c.push_freed.result
    (λ e. (
      with_line_end (freed_reply c.reclaim-count.result),
      e,
      reclaimed_follows c.args.region.now c.reclaim-count.new.self c.meet.new.region c.args.seats.now c.meet.new.self
          c.reclaim-count.result
          c.reclaim-count.ensures.reclaimed c.meet.ensures.met c.meet.ensures.keeper,
    ))
    c.push_freed.ensures
