use Rattle.std.proofs.lemmas.Result.{on_ok_weaker}
use Rattle.nc_report.proofs.Additions.{details_both}
use Rattle.nc_report.proofs.listing.push_bytes.Goals as goal

pub returns : goal.returns
returns c =
    on_ok_weaker c.push_later.result (details_both c.args.out.now.items _ c.push_later.new.out.items c.in_ok-push_row.ensures)
    c.push_later.ensures
