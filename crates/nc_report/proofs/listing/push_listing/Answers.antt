use Rattle.nc_report.proofs.Additions.{details_both}
use Rattle.nc_report.proofs.listing.push_listing.Goals as goal

pub loop-k-preserved : goal.loop-k-preserved
loop-k-preserved c =
    details_both c.args.out.now.items c.loop-k.out.items c.push_run.new.out.items c.loop-k.invariant c.in_ok-push_run.ensures
