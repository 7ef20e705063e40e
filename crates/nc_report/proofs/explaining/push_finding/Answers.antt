use Rattle.std.proofs.lemmas.Result.{on_ok_weaker}
use Rattle.nc_report.proofs.Additions.{details_both}
use Rattle.nc_report.proofs.explaining.push_finding.Goals as goal

pub returns : goal.returns
returns c =
    let old = c.args.out.now.items in
    let two = details_both old _ _ c.in_ok-push_label.ensures.details c.in_ok-push_listing.ensures in
    let three = details_both old _ _ two c.in_ok-push_target.ensures.details in
    on_ok_weaker c.push_words.result (details_both old _ c.push_words.new.out.items three) c.push_words.ensures
