use Rattle.std.proofs.lemmas.Result.{on_ok_weaker}
use Rattle.nc_report.proofs.source_report.push_found_members.Goals as goal

pub returns : goal.returns
returns c =
    on_ok_weaker c.push_members.result
    (λ e. record { text = c.in_ok-members.members.items; says = c.in_ok-members.ensures; added = e }) c.push_members.ensures
