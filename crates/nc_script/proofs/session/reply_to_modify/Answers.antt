use Rattle.std.specs.Prelude.{codes}
use Rattle.std.proofs.lemmas.Result.{on_ok_weaker}
use Rattle.nc_script.specs.Requests.{Modify}
use Rattle.nc_output.specs.Verdicts.{with_line_end, refused_words}
use Rattle.nc_script.specs.Replies.{patch_words}
use Rattle.nc_script.specs.machinery.Session.{FollowsIn}
use Rattle.nc_output.proofs.Offered.{added}
use Rattle.nc_script.proofs.serving.ChunkRequests.{patched_follows, unpatched_follows}
use Rattle.nc_script.proofs.session.reply_to_modify.Goals as goal

pub returns-in-Ok-clause-follows : goal.returns-in-Ok-clause-follows
returns-in-Ok-clause-follows g c =
    let old = c.args.region.now in
    added c.extend_from_slice.result _ _ (with_line_end (codes "ok"))
    (λ reply. FollowsIn (Modify c.args.at c.args.bytes.now) old reply c.modify.new.self)
    c.extend_from_slice.ensures.items
    (patched_follows old c.modify.new.self c.args.at c.args.bytes.now c.requires c.in-Ok.ensures.modified
    c.in-Ok.ensures.lawful)

pub returns-in-Err-clause-follows : goal.returns-in-Err-clause-follows
returns-in-Err-clause-follows g c =
    on_ok_weaker c.push_patch_fault.result
    (λ e. (
      with_line_end (refused_words (patch_words c.in-Err.fault)),
      e,
      unpatched_follows c.args.region.now c.modify.new.self c.args.at c.args.bytes.now c.in-Err.fault c.requires
          c.in-Err.ensures.refused c.in-Err.ensures.unchanged,
    ))
    c.push_patch_fault.ensures
