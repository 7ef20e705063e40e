use Rattle.nc_report.proofs.Additions.{details_both}
use Rattle.nc_report.proofs.listing.push_later.Goals as goal

pub loop-rest-preserved : goal.loop-rest-preserved
loop-rest-preserved c =
    details_both c.args.out.now.items c.loop-rest.out.items c.push_row.new.out.items c.loop-rest.invariant c.in_ok-push_row.ensures
