-- The bits of a word, from the lowest on.
use Rattle.std.proofs.Common.{◌≡◌, ◌≢◌, ℕ, suc, ◌+◌, ◌*◌, ◌/◌, ◌%◌, ◌^◌, ◌<◌, ◌≤◌, arith, sym, ◌∙◌, ap, w32, bit_and}
use Rattle.std.specs.Int.{bit_at, trailing_zeros, bit_not}
use Rattle.std.proofs.lemmas.Nat.{and_le_l}
use Rattle.std.proofs.lemmas.Nat.Bits.{bit_at-suc, bit_at_lowest, bit_at-trailing_zeros, bit_at_clear_same, bit_at_clear_other}

-- the lowest bit of twice a number and one bit is that bit
pub doubled_low : (n b : ℕ) → b < 2 → bit_at (2 * n + b) 0 ≡ b
doubled_low n b small = bit_at_lowest (2 * n + b) ∙ omega (arith, small)

-- the further bits of twice a number and one bit are those of the number
pub doubled_high : (n b k : ℕ) → b < 2 → bit_at (2 * n + b) (suc k) ≡ bit_at n k
doubled_high n b k small = bit_at-suc (2 * n + b) k ∙ ap (λ (m : ℕ). bit_at m k) {x = (2 * n + b) / 2} {y = n} (omega (arith, small))

-- the lowest bit of a word is one of the 32
pub lowest_place : (n : ℕ) → 0 < n → n < 2 ^ 32 → trailing_zeros w32 n < 32
lowest_place n some fits = (bit_at-trailing_zeros w32 n some fits).0

-- the lowest bit of a word that isn't 0 is set
pub lowest_set : (n : ℕ) → 0 < n → n < 2 ^ 32 → bit_at n (trailing_zeros w32 n) ≡ 1
lowest_set n some fits = (bit_at-trailing_zeros w32 n some fits).1

-- no bit of a word below its lowest is set
pub none_lower : (n : ℕ) → 0 < n → n < 2 ^ 32 → (i : ℕ) → i < trailing_zeros w32 n → bit_at n i ≡ 0
none_lower n some fits = (bit_at-trailing_zeros w32 n some fits).2

-- the lowest bit of a word, once cleared, isn't set
pub lowest_cleared : (n : ℕ) → 0 < n → n < 2 ^ 32
    → bit_at (bit_and n (bit_not w32 (1 * 2 ^ trailing_zeros w32 n % 2 ^ 32))) (trailing_zeros w32 n) ≡ 0
lowest_cleared n some fits = bit_at_clear_same w32 n (trailing_zeros w32 n) (lowest_place n some fits)

-- clearing the lowest bit of a word leaves the others
pub others_left : (n : ℕ) → 0 < n → n < 2 ^ 32 → (i : ℕ) → i < 32 → i ≢ trailing_zeros w32 n
    → bit_at (bit_and n (bit_not w32 (1 * 2 ^ trailing_zeros w32 n % 2 ^ 32))) i ≡ bit_at n i
others_left n some fits i lt ne = bit_at_clear_other w32 n (trailing_zeros w32 n) (lowest_place n some fits) i lt ne

-- clearing the lowest bit of a word makes it smaller
pub fewer_left : (n : ℕ) → 0 < n → n < 2 ^ 32 → bit_and n (bit_not w32 (1 * 2 ^ trailing_zeros w32 n % 2 ^ 32)) < n
fewer_left n some fits =
    let other : bit_and n (bit_not w32 (1 * 2 ^ trailing_zeros w32 n % 2 ^ 32)) ≢ n = λ same. (
    let zero_bit : bit_at n (trailing_zeros w32 n) ≡ 0 = ap (λ (m : ℕ). bit_at m (trailing_zeros w32 n)) (sym same)
    ∙ lowest_cleared n some fits in
    let one_bit = lowest_set n some fits in
    let f : 0 ≡ 1 = sym zero_bit ∙ one_bit in omega (arith, f)) in
    below (bit_and n (bit_not w32 (1 * 2 ^ trailing_zeros w32 n % 2 ^ 32))) n
    (and_le_l n (bit_not w32 (1 * 2 ^ trailing_zeros w32 n % 2 ^ 32))) other
  where
    below : (a b : ℕ) → a ≤ b → a ≢ b → a < b
    below a b le ne = omega (arith, le, ne)
