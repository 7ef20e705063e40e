-- A word without its lowest set bit.
use Rattle.std.proofs.Common.{◌≡◌, ◌≢◌, ℕ, zero, suc, ◌+◌, ◌-◌, ◌*◌, ◌/◌, ◌%◌, ◌^◌, ◌<◌, ◌≤◌, min, refl, sym, subst, ◌∙◌, ap}
use Rattle.std.proofs.Common.{arith, inl, inr, w64, bit_and, bit_or, count_ones}
use Rattle.std.specs.Int.{bit_at, trailing_zeros}
use Rattle.std.proofs.lemmas.Bool.{cases_lt}
use Rattle.std.proofs.lemmas.Nat.{ones_le_self, le_or_r, or_lt}
use Rattle.std.proofs.lemmas.Nat.Bits.{bit_at_lowest, bit_at-suc, bit_at-trailing_zeros, bit_at_and, bit_at_or, bit_at-pow_other}
use lib.Bits.{and_step, and_self}
use lib.Count.{ones_step}

-- above the lowest set bit the number before is the same
above_lowest : (p n k : ℕ) → bit_at n p ≡ 1 → ((i : ℕ) → i < p → bit_at n i ≡ 0) → p < k → bit_at (n - 1) k ≡ bit_at n k
above_lowest p n zero set low lt = absurd (omega (arith, lt))
above_lowest zero n (suc j) set low lt =
    let odd : n % 2 ≡ 1 = sym (bit_at_lowest n) ∙ set in
    bit_at-suc (n - 1) j ∙ ap (λ (m : ℕ). bit_at m j) {x = (n - 1) / 2} {y = n / 2} (omega (arith, odd)) ∙ sym (bit_at-suc n j)
above_lowest (suc q) n (suc j) set low lt =
    let even : n % 2 ≡ 0 = sym (bit_at_lowest n) ∙ low 0 (omega arith) in
    bit_at-suc (n - 1) j ∙ ap (λ (m : ℕ). bit_at m j) {x = (n - 1) / 2} {y = n / 2 - 1} (omega (arith, even))
    ∙ above_lowest q (n / 2) j (sym (bit_at-suc n q) ∙ set) (λ i i-lt. sym (bit_at-suc n i) ∙ low (suc i) (omega (arith, i-lt)))
    (omega (arith, lt))
    ∙ sym (bit_at-suc n j)

-- a set bit other than the lowest stays set
pub others_stay : (p n k : ℕ) → bit_at n p ≡ 1 → ((i : ℕ) → i < p → bit_at n i ≡ 0) → bit_at n k ≡ 1 → k ≢ p
    → bit_at (bit_and n (n - 1)) k ≡ 1
others_stay p n k set low here other =
    let above : p < k = elim (cases_lt k p) [
      | inl lt ↦ absurd (let f : 0 ≡ 1 = sym (low k lt) ∙ here in omega (arith, f))
      | inr ge ↦ omega (arith, ge, other)
    ] in
    bit_at_and n (n - 1) k ∙ ap (λ (x : ℕ). min x (bit_at (n - 1) k)) here
    ∙ ap (λ (x : ℕ). min 1 x) (above_lowest p n k set low above ∙ here)

-- a number without its lowest set bit has one set bit fewer
fewer_in : (d n : ℕ) → n ≤ d → count_ones (bit_and n (n - 1)) ≡ count_ones n - 1
fewer_in zero n le =
    let none : n ≡ 0 = omega (arith, le) in
    subst (λ (m : ℕ). count_ones (bit_and m (m - 1)) ≡ count_ones m - 1) (sym none) (omega (arith, ones_le_self 0))
fewer_in (suc d) n le = elim (cases_lt (n % 2) 1) [
  | inl even ↦
      (let half : bit_and n (n - 1) ≡ bit_and (n / 2) (n / 2 - 1) * 2
      = and_step n (n - 1)
      ∙ ap (λ (x : ℕ). bit_and (n / 2) x * 2 + min (n % 2) ((n - 1) % 2)) {x = (n - 1) / 2} {y = n / 2 - 1} (omega (arith, even))
      ∙ omega (arith, even) in
      omega
      (arith, even, half, fewer_in d (n / 2) (omega (arith, le, even)), ones_step n, ones_step (bit_and n (n - 1)), ap (λ (x : ℕ). count_ones x) {x = bit_and n (n - 1) / 2} {y = bit_and (n / 2) (n / 2 - 1)} (omega (arith, half))))
  | inr odd ↦
      (let half : bit_and n (n - 1) ≡ n / 2 * 2
      = and_step n (n - 1)
      ∙ ap (λ (x : ℕ). bit_and (n / 2) x * 2 + min (n % 2) ((n - 1) % 2)) {x = (n - 1) / 2} {y = n / 2} (omega (arith, odd))
      ∙ ap (λ (x : ℕ). x * 2 + min (n % 2) ((n - 1) % 2)) (and_self (n / 2)) ∙ omega (arith, odd) in
      omega
      (arith, odd, half, ones_step n, ones_step (bit_and n (n - 1)), ap (λ (x : ℕ). count_ones x) {x = bit_and n (n - 1) / 2} {y = n / 2} (omega (arith, half))))
]

pub one_fewer : (n : ℕ) → count_ones (bit_and n (n - 1)) ≡ count_ones n - 1
one_fewer n = fewer_in n n (omega arith)

-- a number is cleared of its lowest set bit in the program's form, where the number before 0 is the greatest
pub one_less : (n : ℕ) → n < 2 ^ 64 → bit_and n ((n + (2 ^ 64 - 1)) % 2 ^ 64) ≡ bit_and n (n - 1)
one_less zero fits = refl
one_less (suc m) fits = ap (λ (x : ℕ). bit_and (suc m) x) (omega (arith, fits))

-- a place below 64 is found, since the highest bit is set
pub lowest_in_word : (n : ℕ) → n < 2 ^ 64 → trailing_zeros w64 (bit_or n (2 ^ 63)) < 64
lowest_in_word n fits =
    (bit_at-trailing_zeros w64 (bit_or n (2 ^ 63)) (omega (arith, le_or_r n (2 ^ 63))) (or_lt 64 n (2 ^ 63) fits (omega arith))).0

-- the lowest set bit of a word with its highest bit is the word's own, if it has one
own_lowest : (n p k : ℕ) → p < 64 → bit_at (bit_or n (2 ^ 63)) p ≡ 1 → ((i : ℕ) → i < p → bit_at (bit_or n (2 ^ 63)) i ≡ 0) → k < 64
    → bit_at n k ≡ 1 → (bit_at n p ≡ 1) × ((i : ℕ) → i < p → bit_at n i ≡ 0)
own_lowest n p k p-lt found low lt set = (own, below)
  where
    below : (i : ℕ) → i < p → bit_at n i ≡ 0
    below i i-lt = omega (arith, bit_at_or n (2 ^ 63) i, low i i-lt)

    own : bit_at n p ≡ 1
    own = elim (cases_lt p 63) [
      | inl early ↦
          (let other : bit_at (2 ^ 63) p ≡ 0 = bit_at-pow_other 63 p (λ e. omega (arith, e, early)) in
          omega (arith, bit_at_or n (2 ^ 63) p, found, other))
      | inr late ↦ elim (cases_lt k p) [
        | inl early ↦ absurd (let f : 0 ≡ 1 = sym (below k early) ∙ set in omega (arith, f))
        | inr here ↦ subst (λ (i : ℕ). bit_at n i ≡ 1) {x = k} {y = p} (omega (arith, here, lt, late, p-lt)) set
      ]
    ]

-- the lowest set bit of a word, if it has one, is found although the highest is set too
pub lowest_found : (n k : ℕ) → n < 2 ^ 64 → k < 64 → bit_at n k ≡ 1
    → (bit_at n (trailing_zeros w64 (bit_or n (2 ^ 63))) ≡ 1)
    × ((i : ℕ) → i < trailing_zeros w64 (bit_or n (2 ^ 63)) → bit_at n i ≡ 0)
lowest_found n k fits lt set =
    let lowest = bit_at-trailing_zeros w64 (bit_or n (2 ^ 63)) (omega (arith, le_or_r n (2 ^ 63))) (or_lt 64 n (2 ^ 63) fits (omega arith)) in
    own_lowest n (trailing_zeros w64 (bit_or n (2 ^ 63))) k lowest.0 lowest.1 lowest.2 lt set
