use Rattle.nc_region.specs.Reached.{OfReclaim}
use Rattle.nc_region.proofs.Reaching.{after-call}
use Rattle.nc_region.proofs.shared.reclaim_in.Goals as goal

pub invariant_of-ruled : goal.invariant_of-ruled
invariant_of-ruled g c = after-call g.K.Rule.first c.ruled.invariant (OfReclaim c.reclaim.result c.reclaim.ensures.reclaimed)
