-- Lines were added about the bytes so far.
use Rattle.std.proofs.Common.{length}
use Rattle.nc_output.specs.Shown.{AreDetails}
use Rattle.nc_output.specs.Adds.{Adds}
use Rattle.nc_report.proofs.listing.push_later.Given as goal

abbrev pub invariant-loop-rest : goal.invariant-loop-rest
invariant-loop-rest l = Adds l.initial.out.items l.out.items AreDetails

abbrev pub decreases-loop-rest : goal.decreases-loop-rest
decreases-loop-rest l = length l.rest
