use Rattle.std.proofs.Common.{append_assoc, append-nil}
use Rattle.std.proofs.lemmas.Result.{IfOk-equal}
use Rattle.nc_report.proofs.outside.push_line.Goals as goal

pub returns : goal.returns
returns c =
    IfOk-equal c.push_all.result _ _ _ c.push_all.ensures
    (simp (c.address_digits.ensures, c.as_bytes.ensures.value, c.in_ok-count.ensures.ok, c.choose.ensures, append_assoc, append-nil))
