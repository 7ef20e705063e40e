use Rattle.std.proofs.Common.{sym, subst}
use Rattle.nc_region.specs.Reached.{IsUnderRule, AtFirst}
use Rattle.nc_region.proofs.lock.mutex_under.Goals as goal

pub invariant_of-new : goal.invariant_of-new
invariant_of-new g c = subst (λ first. IsUnderRule first (g.T.HasRegion.region c.args.value)) (sym c.requires) AtFirst
