use Rattle.std.proofs.Common.{OnOk, IfErr, subst}
use Rattle.nc_region.specs.Patch.{IsPatch, MayRefusePatch}
use Rattle.nc_region.specs.Region as spec
use Rattle.nc_region.proofs.Reaching.{after-patch}
use Rattle.nc_region.proofs.shared.patch_in.Goals as goal

pub invariant_of-ruled : goal.invariant_of-ruled
invariant_of-ruled g c =
    after-patch g.K.Rule.first c.modify.result _ _ c.args.at c.args.new.now c.ruled.invariant c.modify.ensures.lawful
    c.modify.ensures.modified c.modify.ensures.unchanged

pub returns-clause-lawful : goal.returns-clause-lawful
returns-clause-lawful g c =
    subst (λ (r : spec.Region). OnOk c.modify.result (IsPatch r c.args.at c.args.new.now)) c.ruled.view_is c.modify.ensures.lawful

pub returns-clause-refused : goal.returns-clause-refused
returns-clause-refused g c =
    subst (λ (r : spec.Region). IfErr c.modify.result (MayRefusePatch r c.args.at c.args.new.now)) c.ruled.view_is c.modify.ensures.refused
