use Rattle.std.proofs.Common.{ap}
use Rattle.nc_vet.proofs.vetted.Vetted.code.Goals as goal

pub returns-clause-value : goal.returns-clause-value
returns-clause-value c =
    let items = c.deref.ensures.value in
    let seen = ap (λ v. v.code) c.self.view_is in
    cc
