-- Lines were added about the places so far.
use Rattle.std.proofs.Common.{◌-◌}
use Rattle.nc_output.specs.Shown.{AreDetails}
use Rattle.nc_output.specs.Adds.{Adds}
use Rattle.nc_report.proofs.listing.push_listing.Given as goal

abbrev pub invariant-loop-k : goal.invariant-loop-k
invariant-loop-k l = Adds l.initial.out.items l.out.items AreDetails

abbrev pub decreases-loop-k : goal.decreases-loop-k
decreases-loop-k l = 32 - l.k
