use Rattle.std.proofs.Common.{append_assoc}
use Rattle.nc_report.proofs.json.with_string.Goals as goal

pub returns : goal.returns
returns c = simp (c.in_ok-push_between-2.ensures, c.in_ok-push_between.ensures, append_assoc)
