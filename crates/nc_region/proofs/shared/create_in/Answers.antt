use Rattle.nc_region.proofs.Reaching.{after-create}
use Rattle.nc_region.proofs.shared.create_in.Goals as goal

pub invariant_of-ruled : goal.invariant_of-ruled
invariant_of-ruled g c =
    after-create g.K.Rule.first c.create.result _ _ c.args.vetted c.ruled.invariant c.code-facts.ensures.valid c.create.ensures.created
    c.create.ensures.free c.create.ensures.unchanged c.create.ensures.refused
