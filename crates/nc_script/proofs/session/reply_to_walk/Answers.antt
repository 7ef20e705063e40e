use Rattle.std.proofs.Common.{subst}
use Rattle.std.specs.Prelude.{codes}
use Rattle.std.proofs.lemmas.Result.{on_ok_weaker}
use Rattle.nc_region.specs.Trace.{MayRefuseWalk}
use Rattle.nc_script.specs.Requests.{Walk}
use Rattle.nc_script.specs.machinery.Session.{FollowsIn}
use Rattle.nc_output.specs.Verdicts.{with_line_end, refused_words}
use Rattle.nc_script.specs.Replies.{walk_reply}
use Rattle.nc_script.proofs.chunks.Fitting.{follows_same}
use Rattle.nc_script.proofs.serving.Serving.{walk_serves, no_start_serves}
use Rattle.nc_output.proofs.Offered.{added}
use Rattle.nc_script.proofs.session.reply_to_walk.Goals as goal

pub returns-in-Ok : goal.returns-in-Ok
returns-in-Ok g c =
    on_ok_weaker c.push_trace.result
    (λ e. (
      with_line_end (walk_reply c.in-Ok.trace.places.items c.in-Ok.trace.end),
      e,
      follows_same (Walk c.args.start c.args.choices.now) c.args.region.now
          (with_line_end (walk_reply c.in-Ok.trace.places.items c.in-Ok.trace.end))
          (λ seats freed.
          walk_serves c.args.region.now seats freed c.args.start c.args.choices.now c.in-Ok.trace.places.items c.in-Ok.trace.end
          c.requires c.in-Ok.ensures.begins c.in-Ok.ensures.trace),
    ))
    c.push_trace.ensures

pub returns-in-Err-NotBundle : goal.returns-in-Err-NotBundle
returns-in-Err-NotBundle g c =
    let region = c.args.region.now in
    let request = Walk c.args.start c.args.choices.now in
    let reply = with_line_end (refused_words (codes "NotBundle")) in
    let not = subst (MayRefuseWalk region.marked.bytes c.args.start) c.in-Err-NotBundle.field-0-is c.in-Err-NotBundle.ensures.refused in
    added c.extend_from_slice.result _ _ reply (λ reply. FollowsIn request region reply region) c.extend_from_slice.ensures.items
    (follows_same request region reply
    (λ seats freed. no_start_serves region seats freed c.args.start c.args.choices.now c.requires not))
