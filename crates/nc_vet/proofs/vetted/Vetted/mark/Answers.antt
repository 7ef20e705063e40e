use Rattle.std.proofs.Common.{◌≡◌, List, ℕ, length, ap, subst, sym}
use Rattle.nc_vet.specs.Listed.{listed}
use Rattle.nc_vet.proofs.Pieces.{valid_len}
use Rattle.nc_vet.proofs.vetted.Vetted.mark.Goals as goal

pub at-requires-clause-each : goal.at-requires-clause-each
at-requires-clause-each c =
    subst (λ (z : List ℕ). length (listed z c.self.inside.marks) ≡ length z) (sym c.deref.ensures.value) (valid_len _ c.self.invariant)

pub returns : goal.returns
returns c =
    let read = c.at.ensures in
    let items = c.deref.ensures.value in
    let seen = ap (λ v. v.marks) c.self.view_is in
    record { value = cc }
