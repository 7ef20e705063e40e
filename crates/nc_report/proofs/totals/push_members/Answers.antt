use Rattle.std.proofs.Common.{append_assoc}
use Rattle.std.proofs.lemmas.Result.{IfOk-equal}
use Rattle.nc_report.proofs.totals.push_members.Goals as goal

pub returns : goal.returns
returns c =
    IfOk-equal c.push_all.result _ _ _ c.push_all.ensures
    (simp (c.as_bytes.ensures.value, c.in_ok-first.ensures.ok, c.as_bytes-2.ensures.value, c.in_ok-second.ensures.ok, append_assoc))
