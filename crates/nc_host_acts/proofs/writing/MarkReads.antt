-- What is read at a place: whether a bundle begins, a mark, a bit.
use Rattle.std.proofs.Common.{◌≡◌, ℕ, zero, suc, ◌+◌, ◌-◌, ◌%◌, ◌==◌, ◌<◌, ◌^◌, Bool, true, false, not, ap, arith, refl, sym, ◌∙◌, w32}
use Rattle.std.specs.Int.{bit_at, bit_not}
use Rattle.std.proofs.lemmas.Nat.Bits.{bit_at_not, bit_at_lowest, bit_at-suc, bit_at-zero, bit_at-lt}
use Rattle.nc_decode.specs.declared.instruction.Mark.TheVariants.{Unmarked, Plain, After}
use Rattle.nc_decode.specs.Bits.{mark_bit}
use Rattle.nc_acts.specs.Acts.{is_start, is_inside, is_mark}
use Rattle.nc_decode.specs.declared.instruction.Mark.{Mark}
use Rattle.nc_acts.proofs.Offered.{bit_is_mark}
use Rattle.nc_acts.proofs.Offered.{is_start_false}
use Rattle.nc_host_acts.specs.machinery.Writing.{mark_if, marks_if}

-- whether a place is marked, by its mark
pub mark_read : (marked : Bool) (marks : ℕ → Mark) (base i : ℕ) → marks_if marked marks base (base + i) ≡ mark_if marked (marks i)
mark_read marked marks base i =
    let here : base + i - base ≡ i = omega arith in ap (λ (k : ℕ). mark_if marked (marks k)) here

-- the opposite of the bit of a mark is set where the mark stands for no state
pub bit_is_none : (mark : Mark) → (1 - mark_bit mark == 1) ≡ not (is_mark mark)
bit_is_none Unmarked = refl
bit_is_none Plain = refl
bit_is_none (After register) = refl

-- a marked place, by its bit
pub marked_bit : (places k : ℕ) (mark : Mark) → bit_at places k ≡ mark_bit mark → (bit_at places k == 1) ≡ mark_if true mark
marked_bit places k mark is = ap (λ (b : ℕ). b == 1) is ∙ bit_is_mark mark

-- an unmarked place, by the opposite of its bit
pub unmarked_bit : (places k : ℕ) (mark : Mark) → places < 2 ^ 32 → k < 32 → bit_at places k ≡ mark_bit mark
    → (bit_at (bit_not w32 places) k == 1) ≡ mark_if false mark
unmarked_bit places k mark fits lt is =
    ap (λ (b : ℕ). b == 1) (bit_at_not w32 places k fits lt ∙ ap (λ (b : ℕ). 1 - b) is) ∙ bit_is_none mark

-- the start of a bundle is its lowest place
pub start_bit : (at k : ℕ) → at % 32 ≡ 0 → k < 32 → (bit_at 1 k == 1) ≡ is_start (at + k)
start_bit at zero start lt =
    let here : (at + zero) % 32 ≡ 0 = omega (arith, start) in
    ap (λ (b : ℕ). b == 1) (bit_at_lowest 1) ∙ sym (ap (λ (n : ℕ). n == 0) here)
start_bit at (suc k) start lt =
    ap (λ (b : ℕ). b == 1) (bit_at-suc 1 k ∙ bit_at-zero k) ∙ sym (is_start_false (at + suc k) (λ e. omega (arith, start, lt, e)))

-- the places of a bundle above its lowest are inside it
pub inside_bit : (at k : ℕ) → at % 32 ≡ 0 → k < 32 → (bit_at 4294967294 k == 1) ≡ is_inside (at + k)
inside_bit at k start lt =
    ap (λ (b : ℕ). b == 1) (bit_at_not w32 1 k (omega arith) lt) ∙ (opposite (bit_at 1 k) (bit_at-lt 1 k) ∙ ap not (start_bit at k start lt))
  where
    opposite : (b : ℕ) → b < 2 → (1 - b == 1) ≡ not (b == 1)
    opposite zero small = refl
    opposite (suc zero) small = refl
    opposite (suc (suc b)) small = absurd (omega (arith, small))
