use Rattle.std.proofs.Common.{◌≡◌, ℕ, ◌+◌, ◌-◌, ◌*◌, ◌/◌, ◌%◌, ◌<◌, ◌^◌, zero, suc, List, get_or, arith, refl, ap, subst, ◌∙◌}
use Rattle.std.specs.Int.{bit_at}
use Rattle.std.proofs.Math.Nat.{pow-succ'}
use Rattle.nc_decode.specs.declared.instruction.Mark.{Mark}
use Rattle.nc_decode.specs.declared.instruction.Mark.TheVariants.{Unmarked, Plain, After}
use Rattle.nc_text.specs.machinery.Masks.{plain_bit, second_bit}
use Rattle.nc_text.proofs.BitPlaces.{doubled_low, doubled_high}
use Rattle.nc_text.proofs.masks.starts_and_seconds.Goals as goal

-- what a mark says of being plain is one bit
small_plain : (mark : Mark) → plain_bit mark < 2
small_plain Unmarked = omega arith
small_plain Plain = omega arith
small_plain (After register) = omega arith

small_second : (mark : Mark) → second_bit mark < 2
small_second Unmarked = omega arith
small_second Plain = omega arith
small_second (After register) = omega arith

pow_more : (m : ℕ) → 2 ^ (m + 1) ≡ 2 * 2 ^ m
pow_more m = ap (λ (j : ℕ). 2 ^ j) {x = m + 1} {y = suc m} (omega arith) ∙ pow-succ' 2 m

-- a word with one more bit below has the bits of the marks from one place before
more_bits : (bit_of : Mark → ℕ) (marks : ℕ → Mark) (n word bit : ℕ) → n < 32 → bit < 2 → bit ≡ bit_of (marks (31 - n))
    → ((k : ℕ) → k < n → bit_at word k ≡ bit_of (marks (32 - n + k)))
    → (k : ℕ) → k < n + 1 → bit_at (2 * word + bit) k ≡ bit_of (marks (32 - (n + 1) + k))
more_bits bit_of marks n word bit few small is bits zero lt =
    doubled_low word bit small ∙ (is ∙ ap (λ (j : ℕ). bit_of (marks j)) {x = 31 - n} {y = 32 - (n + 1) + zero} (omega (arith, few)))
more_bits bit_of marks n word bit few small is bits (suc k) lt =
    doubled_high word bit k small ∙ (bits k (omega (arith, lt))
    ∙ ap (λ (j : ℕ). bit_of (marks j)) {x = 32 - n + k} {y = 32 - (n + 1) + suc k} (omega (arith, few)))

pub loop-n-preserved : goal.loop-n-preserved
loop-n-preserved c =
    let mark = get_or c.args.marks.now (31 - c.loop-n.n) Unmarked in
    let so = c.loop-n.invariant in
    record {
      low = 2 * so.low + plain_bit mark;
      high = 2 * so.high + second_bit mark;
      both = omega (arith, so.both, c.both_bits.ensures);
      low_small = omega (arith, so.low_small, small_plain mark, pow_more c.loop-n.n);
      high_small = omega (arith, so.high_small, small_second mark, pow_more c.loop-n.n);
      starts = more_bits plain_bit (λ j. get_or c.args.marks.now j Unmarked) c.loop-n.n so.low (plain_bit mark) (omega arith)
          (small_plain mark) refl so.starts;
      seconds = more_bits second_bit (λ j. get_or c.args.marks.now j Unmarked) c.loop-n.n so.high (second_bit mark) (omega arith)
          (small_second mark) refl so.seconds;
    }

-- the halves of what both words are in, once the marks of all places are
halves : (both low high n : ℕ) → both ≡ low + 2 ^ 32 * high → low < 2 ^ n → n ≡ 32
    → (both % 2 ^ 32 ≡ low) × (both / 2 ^ 32 ≡ high)
halves both low high n is small all =
    let less : low < 2 ^ 32 = subst (λ (m : ℕ). low < 2 ^ m) all small in
    (omega (arith, is, less), omega (arith, is, less))

-- a bit of a word that has the bits of the marks of all places
bit_of_all : (bit_of : Mark → ℕ) (marks : List Mark) (n word half k : ℕ) → n ≡ 32 → half ≡ word
    → ((k : ℕ) → k < n → bit_at word k ≡ bit_of (get_or marks (32 - n + k) Unmarked)) → k < 32
    → bit_at half k ≡ bit_of (get_or marks k Unmarked)
bit_of_all bit_of marks n word half k all is bits lt =
    ap (λ (w : ℕ). bit_at w k) is ∙ (bits k (omega (arith, lt, all))
    ∙ ap (λ (j : ℕ). bit_of (get_or marks j Unmarked)) {x = 32 - n + k} {y = k} (omega (arith, all)))

pub returns-clause-starts : goal.returns-clause-starts
returns-clause-starts c = λ k lt.
    let so = c.loop-n.invariant in
    let all : c.loop-n.n ≡ 32 = omega arith in
    bit_of_all plain_bit c.args.marks.now c.loop-n.n so.low _ k all (halves c.loop-n.both so.low so.high c.loop-n.n so.both so.low_small all).0 so.starts lt

pub returns-clause-seconds : goal.returns-clause-seconds
returns-clause-seconds c = λ k lt.
    let so = c.loop-n.invariant in
    let all : c.loop-n.n ≡ 32 = omega arith in
    bit_of_all second_bit c.args.marks.now c.loop-n.n so.high _ k all (halves c.loop-n.both so.low so.high c.loop-n.n so.both so.low_small all).1 so.seconds lt
