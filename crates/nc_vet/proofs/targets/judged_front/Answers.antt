use Rattle.std.proofs.Common.{◌*◌, List, subst, sym}
use Rattle.nc_decode.specs.declared.bundle.Bundle.{Bundle}
use Rattle.nc_vet.specs.declared.vetted.Marks.{Marks}
use Rattle.nc_vet.specs.machinery.Judged.{AreJudged}
use Rattle.nc_vet.specs.Listed.{listed}
use Rattle.nc_vet.specs.machinery.Running.{AreBitsTold}
use Rattle.nc_vet.specs.machinery.Steps.{HasJudged}
use Rattle.nc_vet.proofs.BitReading.{judged_bits}
use Rattle.nc_vet.proofs.targets.judged_front.Goals as goal

pub returns-in-Bits : goal.returns-in-Bits
returns-in-Bits c =
    let told = subst (λ (m : Marks). AreBitsTold c.args.code.now m) c.in-Bits.is c.requires.told in
    subst (λ (m : Marks). HasJudged c.args.base c.args.limit c.args.code.now (listed c.args.code.now m) (32 * c.judged_bundles.result))
    (sym c.in-Bits.is)
    (judged_bits c.args.base c.args.limit c.args.code.now c.in-Bits.bundles.items c.judged_bundles.result c.type_inv.code told.0 told.1
    (subst (λ (z : List Bundle).
    AreJudged c.args.base c.args.limit c.args.code.now z c.judged_bundles.result) c.deref.ensures.value
    c.judged_bundles.ensures.judged))
