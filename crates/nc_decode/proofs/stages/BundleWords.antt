-- The marks of a chunk by the bits of its bundles: where instructions and second halves begin, and the marks as a list.
use Rattle.std.proofs.Common.{zero, suc, false, ◌≡◌, ℕ, ◌+◌, ◌-◌, ◌*◌, ◌/◌, ◌%◌, ◌<◌, ◌^◌, ◌==◌, List, length, get_or, arith, refl, ap, sym, ◌∙◌}
use Rattle.std.specs.Int.{bit_at}
use Rattle.std.specs.List.{range_with_len}
use Rattle.std.proofs.lemmas.Bool.{ne_eqb}
use Rattle.std.proofs.lemmas.List.{length-map}
use Rattle.std.proofs.lemmas.List.FromFn.{get_or-map-range_with_len, length-range_with_len}
use Rattle.std.proofs.lemmas.Nat.{shr-shr}
use Rattle.std.proofs.lemmas.Nat.Bits.{bit_at-suc, bit_at_lowest, bit_at_cat_low}
use Rattle.nc_decode.specs.declared.bundle.Bundle.{Bundle}
use Rattle.nc_decode.specs.declared.instruction.Mark.{Mark}
use Rattle.nc_decode.specs.Bits.{starts_instruction, is_second, mark_by_bits, marks_in}

-- the word of starts: the ends, one place later, and the first place
pub start_word : (w : Bundle) (k : ℕ) → k < 32 → (bit_at (2 * (w.ends % 2147483648) + 1) k == 1) ≡ starts_instruction w k
start_word w zero lt = ap (λ (b : ℕ). b == 1) {y = 1} (bit_at_lowest (2 * (w.ends % 2147483648) + 1) ∙ omega arith)
start_word w (suc j) lt =
    let low : 2 ^ 31 ≡ 2147483648 = refl in
    let half : bit_at (2 * (w.ends % 2147483648) + 1) (suc j) ≡ bit_at (w.ends % 2147483648) j =
    bit_at-suc (2 * (w.ends % 2147483648) + 1) j ∙ ap (λ (n : ℕ). bit_at n j) {y = w.ends % 2147483648} (omega arith) in
    let cut : bit_at (w.ends / 2147483648 * 2 ^ 31 + w.ends % 2147483648) j ≡ bit_at (w.ends % 2147483648) j =
    bit_at_cat_low (w.ends / 2147483648) 31 (w.ends % 2147483648) j (omega (arith, lt)) in
    let whole : w.ends / 2147483648 * 2 ^ 31 + w.ends % 2147483648 ≡ w.ends = omega (arith, low) in
    let later : (suc j == 0) ≡ false = ne_eqb (suc j) 0 (λ e. omega (arith, e)) in
    rw later (ap (λ (b : ℕ). b == 1)
    (half ∙ (sym cut ∙ (ap (λ (n : ℕ). bit_at n j) whole ∙ ap (λ (i : ℕ). bit_at w.ends i) {x = j} {y = suc j - 1} (omega arith)))))

-- the word of second halves
pub second_word : (w : Bundle) (k : ℕ) → (bit_at (w.pairs / 2) k == 1) ≡ is_second w k
second_word w k = ap (λ (b : ℕ). b == 1) (sym (bit_at-suc w.pairs k) ∙ ap (λ (i : ℕ). bit_at w.pairs i) {x = suc k} {y = k + 1} (omega arith))

-- there is a mark for each place
pub length-marks_in : (code : List ℕ) (bundles : List Bundle) → length (marks_in code bundles) ≡ length code
length-marks_in code bundles = length-map (range_with_len 0 (length code)) (mark_by_bits code bundles) ∙ length-range_with_len 0 (length code)

-- the mark of a place
pub marks_in-at : (code : List ℕ) (bundles : List Bundle) (k : ℕ) (d : Mark) → k < length code
    → get_or (marks_in code bundles) k d ≡ mark_by_bits code bundles k
marks_in-at code bundles k d lt = get_or-map-range_with_len (mark_by_bits code bundles) 0 (length code) k k d lt (omega arith)

-- the bits after the first ones
pub bit_passed : (n k i : ℕ) → bit_at (n / 2 ^ k) i ≡ bit_at n (k + i)
bit_passed n k i = ap (λ (q : ℕ). q % 2) (shr-shr n k i)
