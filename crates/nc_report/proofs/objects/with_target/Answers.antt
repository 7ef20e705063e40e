use Rattle.std.proofs.Common.{◌∙◌}
use Rattle.std.proofs.lemmas.Result.{IfOk-weaker}
use Rattle.nc_report.proofs.Members.{target_added}
use Rattle.nc_report.proofs.objects.with_target.Goals as goal

pub returns : goal.returns
returns c =
    IfOk-weaker c.with_string-2.result _ _
    (λ all e. target_added c.args.members.items c.in_ok-targeted.targeted.items all.items c.address_digits.result c.deref.result.now c.in-Some.target c.args.target
    c.in-Some.is c.address_digits.ensures (c.deref.ensures.value ∙ c.in_ok-why.ensures) c.in_ok-targeted.ensures e) c.with_string-2.ensures
