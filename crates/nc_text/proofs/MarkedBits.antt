-- The marked places of a bundle, a bit for each.
use Rattle.std.proofs.Common.{◌≡◌, ◌≢◌, ℕ, zero, suc, ◌+◌, ◌%◌, ◌==◌, ◌<◌, max, if◌then◌else◌, arith, refl, sym, ap, subst, ◌∙◌}
use Rattle.std.proofs.Common.{inl, inr}
use Rattle.std.specs.Int.{bit_at}
use Rattle.std.proofs.lemmas.Bool.{cases_eq}
use Rattle.std.proofs.lemmas.Bool.Decides.{nat_tests}
use Rattle.std.proofs.lemmas.Nat.Bits.{bit_at-pow_other}
use Rattle.nc_decode.specs.declared.instruction.Mark.TheVariants.{Unmarked, Plain, After}
use Rattle.nc_decode.specs.Bits.{mark_bit}
use Rattle.nc_text.specs.MarkedText.{unused_mark}

-- a place is marked if it is plain or a second half
pub either_bit : (start second register : ℕ) → start < 2 → second < 2
    → max start second ≡ mark_bit (if start == 1 then Plain else (if second == 1 then After register else Unmarked))
either_bit zero zero register a b = refl
either_bit zero (suc zero) register a b = refl
either_bit zero (suc (suc n)) register a b = absurd (omega (arith, b))
either_bit (suc zero) zero register a b = refl
either_bit (suc zero) (suc zero) register a b = refl
either_bit (suc zero) (suc (suc n)) register a b = absurd (omega (arith, b))
either_bit (suc (suc n)) second register a b = absurd (omega (arith, a))

-- in a bundle that no chunk uses, its start alone is marked
pub unused_bit : (k : ℕ) → k < 32 → bit_at 1 k ≡ mark_bit (unused_mark k)
unused_bit k lt = elim (cases_eq k 0) [
  | inl e ↦ subst (λ (n : ℕ). bit_at 1 n ≡ mark_bit (unused_mark n)) (sym e) refl
  | inr ne ↦
      let m : k % 32 ≢ 0 = omega arith in
      let is : unused_mark k ≡ Unmarked = grind (arith, nat_tests, m) in
      bit_at-pow_other 0 k ne ∙ sym (ap mark_bit is)
]

-- the places of a bundle, from its start on
pub unused_from : (at k : ℕ) → at % 32 ≡ 0 → unused_mark (at + k) ≡ unused_mark k
unused_from at k start = let e : (at + k) % 32 ≡ k % 32 = omega (arith, start) in grind (arith, nat_tests, e)
