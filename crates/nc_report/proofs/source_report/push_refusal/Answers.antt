use Rattle.std.proofs.Common.{append_assoc}
use Rattle.std.proofs.lemmas.Result.{on_ok_weaker}
use Rattle.nc_report.proofs.source_report.push_refusal.Goals as goal

pub returns : goal.returns
returns c =
    on_ok_weaker c.push_fault.result
    (λ e. (e.0, simp (e.1, c.in_ok-push_all.ensures, append_assoc)))
    c.push_fault.ensures
