use Rattle.std.proofs.Common.{arith, subst}
use Rattle.std.proofs.lemmas.Grind.{common_steps}
use Rattle.nc_region.specs.Region.{Region}
use Rattle.nc_region.specs.Trace.{IsOnlyTrace}
use Rattle.nc_region.proofs.region.RegionOf.walk.Goals as goal

pub returns-in-Ok-clause-only : goal.returns-in-Ok-clause-only
returns-in-Ok-clause-only g c =
    subst (λ (r : Region). IsOnlyTrace r.marked.bytes c.args.start c.args.choices.now c.in-Ok.trace.places.items c.in-Ok.trace.end)
    c.self.view_is c.in-Ok.ensures.only

pub returns-in-Err-clause-refused : goal.returns-in-Err-clause-refused
returns-in-Err-clause-refused g c = grind (arith, common_steps)
