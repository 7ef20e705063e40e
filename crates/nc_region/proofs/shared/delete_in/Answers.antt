use Rattle.nc_region.proofs.Reaching.{after-delete}
use Rattle.nc_region.proofs.shared.delete_in.Goals as goal

pub invariant_of-ruled : goal.invariant_of-ruled
invariant_of-ruled g c =
    after-delete g.K.Rule.first c.delete.result _ _ c.args.base c.ruled.invariant c.delete.ensures.deleted c.delete.ensures.unchanged
