use Rattle.std.proofs.Common.{append_assoc, append-nil}
use Rattle.std.proofs.lemmas.Result.{IfOk-equal}
use Rattle.nc_report.proofs.source_report.push_ok_line.Goals as goal

pub returns : goal.returns
returns c =
    IfOk-equal c.push_all.result _ _ _ c.push_all.ensures
    (simp (c.as_bytes.ensures.value, c.in_ok-words.ensures.ok, append_assoc, append-nil))
