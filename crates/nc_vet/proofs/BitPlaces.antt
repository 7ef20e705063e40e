-- What the bits of a bundle say of its places.
use Rattle.std.proofs.Common.{List, get_or, ◌≡◌, ◌≢◌, ℕ, zero, suc, ◌+◌, ◌-◌, ◌*◌, ◌/◌, ◌%◌, ◌^◌, ◌<◌, ◌≤◌, Bool, true, false, refl, sym}
use Rattle.std.proofs.Common.{subst, ◌∙◌, ap, arith, inl, inr, ◌⊎◌, ◌==◌, ◌||◌, eqb-true, eq-eqb, w64, bit_and}
use Rattle.std.specs.Int.{bit_at, trailing_zeros, bit_not}
use Rattle.std.proofs.lemmas.Bool.{cases_lt, eqb-false}
use Rattle.std.proofs.lemmas.Nat.{and_le_l}
use Rattle.std.proofs.lemmas.Nat.Bits.{bit_at-suc, bit_at-trailing_zeros, bit_at_clear_same, bit_at_clear_other, shr_and_one}
use Rattle.std.proofs.lemmas.Nat.Bits.{bit_at_cat_low, bit_at_cat_high}
use Rattle.nc_base.proofs.Offered.{true_or_false}
use Rattle.nc_decode.specs.declared.bundle.Bundle.{Bundle}
use Rattle.nc_decode.specs.Bits.{starts_instruction, is_second, no_bits}
use Rattle.nc_vet.specs.machinery.Judged.{short_to, near_to, IsGood, AreGoodShorts, AreGoodNears, IsJudged, AreJudged}

-- a place whose bit is set in the ends shifted by one is the start of an instruction
pub start_bit : (w : Bundle) (k starts : ℕ) → starts ≡ 2 * w.ends + 1 → bit_and (starts / 2 ^ k) 1 ≡ 1 → starts_instruction w k ≡ true
start_bit w zero starts is e = refl
start_bit w (suc j) starts is e =
    let there : j ≡ suc j - 1 = omega arith in
    let bit : bit_at w.ends (suc j - 1) ≡ 1 =
    ap (λ (k : ℕ). bit_at w.ends k) (sym there)
    ∙ ap (λ (n : ℕ). bit_at n j) {x = w.ends} {y = starts / 2} (omega (arith, is))
    ∙ sym (bit_at-suc starts j) ∙ sym (shr_and_one starts (suc j)) ∙ e in
    or_right (suc j == 0) (bit_at w.ends (suc j - 1) == 1) (eq-eqb _ 1 bit)
  where
    or_right : (a b : Bool) → b ≡ true → (a || b) ≡ true
    or_right true b h = refl
    or_right false b h = h

-- a place whose bit isn't set in the shifted word of pairs is no second half
pub second_bit : (w : Bundle) (k : ℕ) → bit_and (w.pairs / 2 / 2 ^ k) 1 ≡ 0 → is_second w k ≡ false
second_bit w k e =
    let bit : bit_at w.pairs (k + 1) ≡ 0 = ap (λ (j : ℕ). bit_at w.pairs j) {x = k + 1} {y = suc k} (omega arith) ∙ bit_at-suc w.pairs k
    ∙ sym (shr_and_one (w.pairs / 2) k) ∙ e in
    rw bit refl

-- ---- the lowest bit

-- the lowest bit of a word that isn't 0 is set
pub lowest_set : (n : ℕ) → 0 < n → n < 2 ^ 64 → bit_at n (trailing_zeros w64 n) ≡ 1
lowest_set n some fits = (bit_at-trailing_zeros w64 n some fits).1

-- the lowest bit of a word is one of the 64
pub lowest_place : (n : ℕ) → 0 < n → n < 2 ^ 64 → trailing_zeros w64 n < 64
lowest_place n some fits = (bit_at-trailing_zeros w64 n some fits).0

-- clearing the lowest bit of a word leaves the others
pub others_left : (n : ℕ) → 0 < n → n < 2 ^ 64 → (i : ℕ) → i < 64 → i ≢ trailing_zeros w64 n
    → bit_at (bit_and n (bit_not w64 (1 * 2 ^ trailing_zeros w64 n % 2 ^ 64))) i ≡ bit_at n i
others_left n some fits i lt ne = bit_at_clear_other w64 n (trailing_zeros w64 n) (lowest_place n some fits) i lt ne

-- clearing the lowest bit of a word makes it smaller
pub fewer_left : (n : ℕ) → 0 < n → n < 2 ^ 64 → bit_and n (bit_not w64 (1 * 2 ^ trailing_zeros w64 n % 2 ^ 64)) < n
fewer_left n some fits =
    let clear : bit_at (bit_and n (bit_not w64 (1 * 2 ^ trailing_zeros w64 n % 2 ^ 64))) (trailing_zeros w64 n) ≡ 0 =
    bit_at_clear_same w64 n (trailing_zeros w64 n) (lowest_place n some fits) in
    let other : bit_and n (bit_not w64 (1 * 2 ^ trailing_zeros w64 n % 2 ^ 64)) ≢ n = λ same. (
    let zero_bit : bit_at n (trailing_zeros w64 n) ≡ 0 = ap (λ (m : ℕ). bit_at m (trailing_zeros w64 n)) (sym same) ∙ clear in
    let one_bit = lowest_set n some fits in
    let f : 0 ≡ 1 = sym zero_bit ∙ one_bit in omega (arith, f)) in
    below (bit_and n (bit_not w64 (1 * 2 ^ trailing_zeros w64 n % 2 ^ 64))) n
    (and_le_l n (bit_not w64 (1 * 2 ^ trailing_zeros w64 n % 2 ^ 64))) other
  where
    below : (a b : ℕ) → a ≤ b → a ≢ b → a < b
    below a b le ne = omega (arith, le, ne)

-- once one of the bits is cleared and its target judged, each bit that was set at first is still left, or its target is judged
pub one_done : (G : ℕ → Type 0) (target : ℕ → ℕ) (ends left rest at to : ℕ)
    → ((i : ℕ) → i < 64 → i ≢ at → bit_at rest i ≡ bit_at left i) → to ≡ target at → G to
    → ((k : ℕ) → k < 64 → bit_at ends k ≡ 1 → (bit_at left k ≡ 1) ⊎ G (target k))
    → (k : ℕ) → k < 64 → bit_at ends k ≡ 1 → (bit_at rest k ≡ 1) ⊎ G (target k)
one_done G target ends left rest at to others is good before k lt set =
    elim (before k lt set) [
      | inr done ↦ inr done
      | inl bit ↦ elim (true_or_false (k == at)) [
        | inl here ↦ inr (subst (λ (i : ℕ). G (target i)) (sym (eqb-true k at here)) (subst G is good))
        | inr other ↦ inl (others k lt (eqb-false k at other) ∙ bit)
      ]
    ]

-- ---- two bundles

-- the low bits of two words, one behind the other, are those of the first
pub first_of_two : (first second k : ℕ) → k < 32 → bit_at (second * 2 ^ 32 + first) k ≡ bit_at first k
first_of_two first second k lt = bit_at_cat_low second 32 first k lt

-- the high bits of two words, one behind the other, are those of the second
pub second_of_two : (first second k : ℕ) → first < 2 ^ 32 → bit_at (second * 2 ^ 32 + first) (32 + k) ≡ bit_at second k
second_of_two first second k small = bit_at_cat_high second 32 first (32 + k) small (omega arith)
    ∙ ap (λ (j : ℕ). bit_at second j) (omega arith)

-- two more bundles are judged
pub judged_two : (base limit : ℕ) (code : List ℕ) (bundles : List Bundle) (n shorts nears : ℕ)
    → ((k : ℕ) → k < 32 → bit_at shorts k ≡ bit_at (get_or bundles n no_bits).shorts k)
    → ((k : ℕ) → k < 32 → bit_at shorts (32 + k) ≡ bit_at (get_or bundles (n + 1) no_bits).shorts k)
    → ((k : ℕ) → k < 32 → bit_at nears k ≡ bit_at (get_or bundles n no_bits).nears k)
    → ((k : ℕ) → k < 32 → bit_at nears (32 + k) ≡ bit_at (get_or bundles (n + 1) no_bits).nears k)
    → AreGoodShorts base limit code bundles (32 * n) shorts → AreGoodNears base limit code bundles (32 * n) nears
    → AreJudged base limit code bundles n → AreJudged base limit code bundles (n + 2)
judged_two base limit code bundles n shorts nears s0 s1 n0 n1 gs gn j m lt = elim (cases_lt m n) [
  | inl earlier ↦ j m earlier
  | inr later ↦ elim (cases_lt n m) [
    | inl second ↦
        (let is : m ≡ n + 1 = omega (arith, second, lt) in
        subst (λ (i : ℕ). IsJudged base limit code bundles i) (sym is) (record {
          shorts = λ k k-lt set. subst (λ (i : ℕ). IsGood base limit code bundles
              (short_to base code i)) {x = 32 * n + (32 + k)} {y = 32 * (n + 1) + k} (omega arith)
              (gs (32 + k) (omega (arith, k-lt)) (s1 k k-lt ∙ set));
          nears = λ k k-lt set. subst (λ (i : ℕ). IsGood base limit code bundles
              (near_to base code i)) {x = 32 * n + (32 + k)} {y = 32 * (n + 1) + k} (omega arith)
              (gn (32 + k) (omega (arith, k-lt)) (n1 k k-lt ∙ set));
        }))
    | inr first ↦
        (let is : m ≡ n = omega (arith, later, first) in
        subst (λ (i : ℕ). IsJudged base limit code bundles i) (sym is) (record {
          shorts = λ k k-lt set. gs k (omega (arith, k-lt)) (s0 k k-lt ∙ set);
          nears = λ k k-lt set. gn k (omega (arith, k-lt)) (n0 k k-lt ∙ set);
        }))
  ]
]
