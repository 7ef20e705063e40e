use Rattle.std.proofs.lemmas.Result.{on_ok_weaker}
use Rattle.nc_report.proofs.Members.{one_member}
use Rattle.nc_report.proofs.saying.push_member.Goals as goal

pub returns : goal.returns
returns c =
    on_ok_weaker c.push_members.result
    (λ e. record {
      text = c.in_ok-members.members.items;
      says = one_member c.args.name.now c.args.words.now _ _ c.no_members.ensures c.in_ok-members.ensures;
      added = e;
    })
    c.push_members.ensures
