use Rattle.std.proofs.Common.{ap}
use Rattle.nc_vet.specs.Listed.{listed}
use Rattle.nc_vet.proofs.vetted.Vetted.bundles.Goals as goal

pub returns-in-Bits : goal.returns-in-Bits
returns-in-Bits c =
    let bits = ap (λ m. listed c.self.inside.code.items m) c.in-Bits.is in
    let items = c.deref.ensures.value in
    let marks = ap (λ v. v.marks) c.self.view_is in
    let code = ap (λ v. v.code) c.self.view_is in
    record { marks = cc }
