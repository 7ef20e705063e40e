use Rattle.std.proofs.Common.{append_assoc}
use Rattle.std.proofs.lemmas.Result.{IfOk-equal}
use Rattle.nc_report.proofs.outside.push_object.Goals as goal

pub returns : goal.returns
returns c =
    IfOk-equal c.push_text-2.result _ _ _ c.push_text-2.ensures
    (simp (c.in_ok-push_text.ensures, c.as_bytes.ensures.value, c.in_ok-count.ensures.ok, c.in_ok-push_between.ensures, c.address_digits.ensures, append_assoc))
