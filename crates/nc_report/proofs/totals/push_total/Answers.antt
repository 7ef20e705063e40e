use Rattle.std.proofs.Common.{append-nil}
use Rattle.std.proofs.lemmas.Result.{IfOk-equal}
use Rattle.nc_report.proofs.totals.push_total.Goals as goal

pub returns : goal.returns
returns c =
    IfOk-equal c.push_all.result _ _ _ c.push_all.ensures
    (simp (c.as_bytes.ensures.value, c.in_ok-total.ensures.ok, c.choose-faults.ensures, append-nil))
