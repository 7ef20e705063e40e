-- The bits that say which of 32 marks are set, and the places between them.
use Rattle.std.proofs.Common.{◌≡◌, ℕ, ◌%◌, ◌^◌, ◌<◌, Bool, true, false, refl, sym, subst, ap, ◌∙◌, arith, ◌==◌, w32, ◌+◌, cond, ◌≤◌, ◌-◌, inl, inr, ◌≢◌}
use Rattle.std.proofs.lemmas.Bool.{cases_lt}
use Rattle.std.specs.Int.{bit_at, trailing_zeros}
use Rattle.std.proofs.lemmas.Nat.Bits.{bit_at-trailing_zeros}

-- a mark that isn't 0 is that of a test that holds
pub not_zero : (b : Bool) (bit mark : ℕ) → bit ≡ 0 → (bit == 1) ≡ (mark == 0) → mark ≡ cond b 1 0 → b ≡ true
not_zero true bit mark z e m = refl
not_zero false bit mark z e m =
    absurd (let f : false ≡ true = ap (λ (n : ℕ). n == 1) (sym z) ∙ e ∙ ap (λ (n : ℕ). n == 0) m in cc)

-- the bits before the lowest one that is set
pub bit_below : (n i : ℕ) → n ≢ 0 → n < 2 ^ 32 → i < trailing_zeros w32 n → bit_at n i ≡ 0
bit_below n i some small lt = (bit_at-trailing_zeros w32 n (omega (arith, some)) small).2 i lt

-- places are quiet from `from` on, up to `to`, which is in the same bundle as `at` or its end
pub quiet_from : (q : ℕ → Bool) (bits from at to k : ℕ) → (k ≡ at % 32) × (to ≤ at + (32 - k)) → ((j : ℕ) → from ≤ j → j < at → q j ≡ true)
    → ((i : ℕ) → i < 32 → bit_at bits i ≡ 0 → q ((at - k) + i) ≡ true) → ((i : ℕ) → at + i < to → bit_at bits (k + i) ≡ 0)
    → (j : ℕ) → from ≤ j → j < to → q j ≡ true
quiet_from q bits from at to k w before told clear j low high = elim (cases_lt j at) [
  | inl early ↦ before j low early
  | inr late ↦
      (let i : ℕ = j - at in
      let place : at + (j - at) ≡ j = omega (arith, late) in
      let is : (at - k) + (k + (j - at)) ≡ j = omega (arith, late, w.0) in
      subst (λ (n : ℕ). q n ≡ true) is
      (told (k + (j - at)) (omega (arith, w.0, w.1, late, high)) (clear (j - at) (omega (arith, place, high)))))
]
