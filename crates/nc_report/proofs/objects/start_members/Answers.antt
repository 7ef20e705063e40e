use Rattle.std.proofs.Common.{codes, refl}
use Rattle.std.proofs.lemmas.Result.{IfOk-weaker}
use Rattle.nc_report.proofs.Members.{one_member, two_members}
use Rattle.nc_report.proofs.objects.start_members.Goals as goal

pub returns-then-is_empty : goal.returns-then-is_empty
returns-then-is_empty c =
    let are = one_member (codes "at") c.address_digits.result _ _ c.no_members.ensures c.in_ok-start.ensures in (are.0, are.2)

pub returns : goal.returns
returns c =
    IfOk-weaker c.with_string-2.result _ _
    (λ all e. let are = two_members (codes "at") (codes "name") c.address_digits.result c.deref.result.now _ _ all.items refl c.no_members.ensures c.in_ok-start.ensures e in (are.0, are.2))
    c.with_string-2.ensures
