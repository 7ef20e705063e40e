-- The number of instructions by the bits of bundles.
use Rattle.std.proofs.Common.{◌≡◌, ℕ, zero, suc, ◌+◌, ◌-◌, ◌*◌, ◌/◌, ◌%◌, ◌<◌, ◌≤◌, max, Bool, true, false, eqb, List, ◌||◌, bit_or, count_ones, slice_index, take_all, length, map, take, cond, get_or, refl, sym, ◌∙◌, ap, arith}
use Rattle.std.specs.Int.{bit_at}
use Rattle.std.specs.List.{sum_by, range_with_len}
use Rattle.std.proofs.lemmas.Nat.{or_lt}
use Rattle.std.proofs.lemmas.Nat.Bits.{bit_at_or, bit_at-lt, bit_at-suc, bit_at-zero, bit_at_cat_low, same_from_bits_below}
use Rattle.std.proofs.lemmas.List.Sums.{sum_by-cons, sum_by-append, sum_by_more, count_by-le-length}
use Rattle.std.proofs.lemmas.Simd.{mask_l-lt, bit_mask_l, ones-mask_l}
use lib.Lanes.{mask_l}
use Rattle.std.proofs.lemmas.List.Folds.{fold-map}
use Rattle.std.proofs.lemmas.List.FromFn.{get_or-map-range_with_len}
use Rattle.nc_report.proofs.CountedFaults.{range_append}
use Rattle.nc_decode.specs.declared.instruction.Mark.{Mark}
use Rattle.nc_decode.specs.declared.instruction.Mark.TheVariants.{Unmarked, Plain, After}
use Rattle.nc_output.proofs.Offered.{eqb_no}
use Rattle.nc_decode.specs.declared.bundle.Bundle.{Bundle}
use Rattle.nc_decode.specs.Bits.{starts_instruction, is_second, no_bits, bit_mark, mark_by_bits, marks_in}
use Rattle.nc_report.specs.machinery.Counts.{count_mark, begins_at, begun_in}

-- ---- one bundle

-- one, or nothing
abbrev bit : Bool → ℕ
bit b = cond b 1 0

-- of two bits either is set
either : (a b : ℕ) → a < 2 → b < 2 → cond (eqb a 1 || (false || eqb b 1)) 1 0 ≡ max (max b 0) a
either zero zero l m = refl
either zero (suc zero) l m = refl
either zero (suc (suc b)) l m = absurd (omega (arith, m))
either (suc zero) zero l m = refl
either (suc zero) (suc zero) l m = refl
either (suc zero) (suc (suc b)) l m = absurd (omega (arith, m))
either (suc (suc a)) b l m = absurd (omega (arith, l))

-- something, or true
or_true : (b : Bool) → bit (b || true) ≡ 1
or_true true = refl
or_true false = refl

-- the low bits of a number
low_bit : (n i : ℕ) → i < 31 → bit_at (n % 2147483648) i ≡ bit_at n i
low_bit n i lt =
    sym (bit_at_cat_low (n / 2147483648) 31 (n % 2147483648) i lt)
    ∙ ap (λ (m : ℕ). bit_at m i) (omega arith)

-- the word of a bundle, in which a bit says that an instruction begins there
abbrev pub word : Bundle → ℕ
word w = bit_or (bit_or (w.ends * 2 % 4294967296) 1) (w.pairs / 2)

-- a bit of the word of a bundle says whether an instruction begins there
word_bit : (w : Bundle) (i : ℕ) → i < 32 → bit_at (word w) i ≡ cond (begins_at w i) 1 0
word_bit w zero lt =
    bit_at_or (bit_or (w.ends * 2 % 4294967296) 1) (w.pairs / 2) 0
    ∙ ap (λ (n : ℕ). max n (bit_at (w.pairs / 2) 0)) (bit_at_or (w.ends * 2 % 4294967296) 1 0)
    ∙ omega (arith, bit_at-lt (w.ends * 2 % 4294967296) 0, bit_at-lt (w.pairs / 2) 0)
    ∙ sym (or_true (is_second w 0))
word_bit w (suc j) lt =
    let ends : bit_at (w.ends * 2 % 4294967296) (suc j) ≡ bit_at w.ends j =
    bit_at-suc (w.ends * 2 % 4294967296) j ∙ ap (λ (n : ℕ). bit_at n j) (omega arith) ∙ low_bit w.ends j (omega (arith, lt)) in
    let ones : bit_at 1 (suc j) ≡ 0 = bit_at-suc 1 j ∙ bit_at-zero j in
    let pairs : bit_at (w.pairs / 2) (suc j) ≡ bit_at w.pairs (suc j + 1) =
    sym (bit_at-suc w.pairs (suc j)) ∙ ap (bit_at w.pairs) (omega arith) in
    bit_at_or (bit_or (w.ends * 2 % 4294967296) 1) (w.pairs / 2) (suc j)
    ∙ ap (λ (n : ℕ). max n (bit_at (w.pairs / 2) (suc j))) (bit_at_or (w.ends * 2 % 4294967296) 1 (suc j))
    ∙ ap (λ (n : ℕ). max (max n (bit_at 1 (suc j))) (bit_at (w.pairs / 2) (suc j))) ends
    ∙ ap (λ (n : ℕ). max (max (bit_at w.ends j) n) (bit_at (w.pairs / 2) (suc j))) ones
    ∙ ap (λ (n : ℕ). max (max (bit_at w.ends j) 0) n) pairs
    ∙ sym (either (bit_at w.pairs (suc j + 1)) (bit_at w.ends j) (bit_at-lt w.pairs (suc j + 1)) (bit_at-lt w.ends j))
    ∙ ap (λ (n : ℕ). cond (is_second w (suc j) || (false || eqb (bit_at w.ends n) 1)) 1 0) (omega arith)
    ∙ ap (λ (b : Bool). cond (is_second w (suc j) || (b || eqb (bit_at w.ends (suc j - 1)) 1)) 1 0) (sym (eqb_no (suc j) 0 (λ e. omega (arith, e))))

-- the word of a bundle has as many ones as instructions begin in the bundle
pub ones_begun : (w : Bundle) → w.pairs < 4294967296 → count_ones (word w) ≡ begun_in w
unfolding begun_in
ones_begun w small =
    let p = begins_at w in
    let places = range_with_len 0 32 in
    let bits : (i : ℕ) → i < 32 → bit_at (word w) i ≡ bit_at (mask_l (map p places)) i = λ i lt.
    word_bit w i lt
    ∙ ap (λ (b : Bool). cond b 1 0) (sym (get_or-map-range_with_len p 0 32 i i false lt (omega arith)))
    ∙ sym (bit_mask_l (map p places) i) in
    let same : word w ≡ mask_l (map p places) =
    same_from_bits_below 32 (word w) (mask_l (map p places))
    (or_lt 32 (bit_or (w.ends * 2 % 4294967296) 1) (w.pairs / 2) (or_lt 32 (w.ends * 2 % 4294967296) 1 (omega arith) (omega arith))
    (omega (arith, small)))
    (mask_l-lt (map p places)) bits in
    ap count_ones same ∙ ones-mask_l p places

-- at most 32 instructions begin in a bundle
pub begun_small : (w : Bundle) → begun_in w ≤ 32
unfolding begun_in
begun_small w = count_by-le-length (begins_at w) (range_with_len 0 32)

-- ---- all bundles

-- two ranges count the same where their places do
same_sum : (f g : ℕ → ℕ) (a b n : ℕ) → ((k : ℕ) → k < n → f (a + k) ≡ g (b + k))
    → sum_by f (range_with_len a n) ≡ sum_by g (range_with_len b n)
same_sum f g a b zero h = refl
same_sum f g a b (suc n) h =
    sum_by-cons f a (range_with_len (a + 1) n)
    ∙ ap (λ (x : ℕ). x + sum_by f (range_with_len (a + 1) n)) (ap f (omega arith) ∙ h 0 (omega arith) ∙ ap g (omega arith))
    ∙ ap (λ (x : ℕ). g b + x) (same_sum f g (a + 1) (b + 1) n (λ k lt. ap f (omega arith) ∙ h (k + 1) (omega (arith, lt)) ∙ ap g (omega arith)))
    ∙ sym (sum_by-cons g b (range_with_len (b + 1) n))

-- the mark by bits
one_mark : (a b : Bool) (r : ℕ) → count_mark (cond a (After r) (cond b Plain Unmarked)) ≡ cond (a || b) 1 0
one_mark true b r = refl
one_mark false true r = refl
one_mark false false r = refl

-- the mark of a place, by its bundle
one_at : (code : List ℕ) (bundles : List Bundle) (n k : ℕ) → k < 32
    → count_mark (mark_by_bits code bundles (32 * n + k)) ≡ cond (begins_at (get_or bundles n no_bits) k) 1 0
one_at code bundles n k lt =
    ap (λ (m : ℕ). count_mark (bit_mark (get_or bundles m no_bits) ((32 * n + k) % 32) (slice_index code (32 * n + k + 1)))) (omega (arith, lt))
    ∙ ap (λ (m : ℕ). count_mark (bit_mark (get_or bundles n no_bits) m (slice_index code (32 * n + k + 1)))) (omega (arith, lt))
    ∙ one_mark (is_second (get_or bundles n no_bits) k) (starts_instruction (get_or bundles n no_bits) k) (slice_index code (32 * n + k + 1) % 8)

-- the marks of the first bundles
sum_bundles : (code : List ℕ) (bundles : List Bundle) (n : ℕ) → n ≤ length bundles
    → sum_by (λ k. count_mark (mark_by_bits code bundles k)) (range_with_len 0 (32 * n)) ≡ sum_by begun_in (take n bundles)
unfolding begun_in
sum_bundles code bundles zero le = refl
sum_bundles code bundles (suc n) le =
    let f = λ (k : ℕ). count_mark (mark_by_bits code bundles k) in
    let w = get_or bundles n no_bits in
    ap (λ (m : ℕ). sum_by f (range_with_len 0 m)) {x = 32 * suc n} {y = 32 * n + 32} (omega arith)
    ∙ ap (λ (ks : List ℕ). sum_by f ks) (range_append 0 (32 * n) 32)
    ∙ sum_by-append f (range_with_len 0 (32 * n)) (range_with_len (0 + 32 * n) 32)
    ∙ ap (λ (x : ℕ). x + sum_by f (range_with_len (0 + 32 * n) 32)) (sum_bundles code bundles n (omega (arith, le)))
    ∙ ap (λ (x : ℕ). sum_by begun_in (take n bundles) + x)
    (same_sum f (λ k. cond (begins_at w k) 1 0) (0 + 32 * n) 0 32
    (λ k lt. ap f {x = 0 + 32 * n + k} {y = 32 * n + k} (omega arith) ∙ one_at code bundles n k lt
    ∙ ap (λ (m : ℕ). cond (begins_at w m) 1 0) {x = k} {y = 0 + k} (omega arith)))
    ∙ sym (sum_by_more begun_in bundles n no_bits (omega (arith, le)))
    ∙ ap (λ (m : ℕ). sum_by begun_in (take m bundles)) {x = n + 1} {y = suc n} (omega arith)

-- the marks of all bundles
pub sum_bits : (code : List ℕ) (bundles : List Bundle) → 32 * length bundles ≡ length code
    → sum_by count_mark (marks_in code bundles) ≡ sum_by begun_in bundles
sum_bits code bundles e =
    fold-map (λ (n : ℕ) (m : Mark). n + count_mark m) (mark_by_bits code bundles) 0 (range_with_len 0 (length code))
    ∙ ap (λ (n : ℕ). sum_by (λ k. count_mark (mark_by_bits code bundles k)) (range_with_len 0 n)) (sym e)
    ∙ sum_bundles code bundles (length bundles) (omega arith)
    ∙ ap (λ (bs : List Bundle). sum_by begun_in bs) (take_all (length bundles) bundles (omega arith))
