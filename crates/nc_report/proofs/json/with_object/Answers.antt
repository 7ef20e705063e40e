use Rattle.std.proofs.Common.{append_assoc}
use Rattle.nc_report.proofs.json.with_object.Goals as goal

pub returns : goal.returns
returns c =
    simp (c.in_ok-push_text-3.ensures, c.in_ok-push_text-2.ensures, c.after_first.ensures, c.deref.ensures.value, c.in_ok-push_text.ensures, append_assoc)
