use Rattle.std.proofs.Common.{◌≡◌, ◌++◌, OnOk, subst, sym}
use Rattle.nc_region.specs.declared.fault.ModifyFault.{ModifyFault}
use Rattle.nc_output.specs.Verdicts.{with_line_end, refused_words}
use Rattle.nc_output.proofs.Offered.{added_all}
use Rattle.nc_script.specs.Replies.{patch_words}
use Rattle.nc_script.proofs.reply.push_patch_fault.Goals as goal

pub returns-in-Boundaries : goal.returns-in-Boundaries
returns-in-Boundaries c =
    let push = c.extend_from_slice-in-Boundaries in
    let old = c.args.out.now.items in
    subst (λ (fault : ModifyFault). OnOk push.result (push.new.self.items ≡ old ++ with_line_end (refused_words (patch_words fault))))
    (sym c.in-Boundaries.is) (added_all push.result push.new.self.items old _ push.ensures.items)
