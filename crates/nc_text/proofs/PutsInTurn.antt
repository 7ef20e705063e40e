-- Bytes put at the places of one choice and then at those of another, which together are all places of the span.
use Rattle.std.proofs.Common.{◌≡◌, ℕ, ◌+◌, ◌-◌, ◌<◌, ◌≤◌, zero, suc, Bool, true, false, List, length, get_or, set, arith, refl, sym, ap, not, subst, ◌∙◌}
use Rattle.nc_decode.specs.declared.instruction.Mark.{Mark}
use Rattle.nc_text.specs.Marks.{IsClosed}
use Rattle.nc_text.specs.MarkedText.{MarkedText, with_span}
use Rattle.nc_text.specs.Puts.{HasPut, HasPutInTurn, ClosedThroughout, is_start, is_inside, is_marked_at, is_unmarked_at}
use Rattle.nc_text.proofs.OneMoreByte.{put_none, put_more, put_passed}
use Rattle.nc_text.proofs.SpanElements.{length-with_span}
use Rattle.nc_text.proofs.SpanPlaces.{place_of, Before, Within, Behind, span_within, span_before, span_behind}

-- what is left once bytes have been put
abbrev Leaves : (ℕ → Bool) → ℕ → List ℕ → ℕ → List ℕ → Type 0
Leaves chosen base bytes count old = (new : List ℕ) × HasPut chosen base bytes count old new

-- one more byte is put where its place is chosen
one_more : (chosen : ℕ → Bool) (base : ℕ) (bytes : List ℕ) (count : ℕ) (old now : List ℕ) → HasPut chosen base bytes count old now
    → 65536 ≤ base → base + count < 65536 + length old → (b : Bool) → chosen (base + count) ≡ b → Leaves chosen base bytes (count + 1) old
one_more chosen base bytes count old now puts low fits true is =
    (set now (base + count - 65536) (get_or bytes count 0), put_more chosen base bytes count old now puts low fits is)
one_more chosen base bytes count old now puts low fits false not = (now, put_passed chosen base bytes count old now puts not)

-- any bytes can be put at any choice of places of a span in the region
puts_leave : (chosen : ℕ → Bool) (base : ℕ) (bytes old : List ℕ) → 65536 ≤ base → (count : ℕ) → base + count ≤ 65536 + length old
    → Leaves chosen base bytes count old
puts_leave chosen base bytes old low zero fits = (old, put_none chosen base bytes old)
puts_leave chosen base bytes old low (suc n) fits =
    let before = puts_leave chosen base bytes old low n (omega (arith, fits)) in
    let more : n + 1 ≡ suc n = omega arith in
    subst (λ (m : ℕ). Leaves chosen base bytes m old) more
    (one_more chosen base bytes n old before.0 before.1 low (omega (arith, fits)) (chosen (base + n)) refl)

-- once the bytes stand at the places of one choice, puts at all others leave the span with the bytes
puts_complete : (first second : ℕ → Bool) (base : ℕ) (bytes old between : List ℕ) → 65536 ≤ base
    → base + length bytes ≤ 65536 + length old → ((at : ℕ) → second at ≡ false → first at ≡ true)
    → HasPut first base bytes (length bytes) old between
    → HasPut second base bytes (length bytes) between (with_span old (base - 65536) bytes)
puts_complete first second base bytes old between low fits others puts =
    record {
      as_long = length-with_span old (base - 65536) bytes (omega (arith, fits, low)) ∙ sym puts.as_long;
      put = λ at from to is. span_within old base bytes at 0 low fits from to;
      passed = λ at from not.
          elim (place_of base (length bytes) at) [
            | Before l ↦ absurd (omega (arith, from, l))
            | Within a b ↦ span_within old base bytes at 0 low fits a b ∙ sym (puts.put at a b (others at not))
            | Behind p ↦ span_behind old base bytes at 0 low fits p ∙ sym (puts.above at p)
          ];
      below = λ at low' l. span_before old base bytes at 0 low fits low' l ∙ sym (puts.below at low' l);
      above = λ at p. span_behind old base bytes at 0 low fits p ∙ sym (puts.above at p);
    }

-- a span set at once is what the puts leave
pub put_in_turn : (first second : ℕ → Bool) (base : ℕ) (bytes old : List ℕ) → 65536 ≤ base → base + length bytes ≤ 65536 + length old
    → ((at : ℕ) → second at ≡ false → first at ≡ true)
    → HasPutInTurn first second base bytes old (with_span old (base - 65536) bytes)
put_in_turn first second base bytes old low fits others =
    let middle = puts_leave first base bytes old low (length bytes) fits in
    record {
      between = middle.0;
      put_first = middle.1;
      put_then = puts_complete first second base bytes old middle.0 low fits others middle.1;
    }

-- no bytes put anywhere change nothing
pub put_none_in_turn : (first second : ℕ → Bool) (base : ℕ) (bytes old : List ℕ) → length bytes ≡ 0
    → HasPutInTurn first second base bytes old old
put_none_in_turn first second base bytes old none =
    record {
      between = old;
      put_first = subst (λ (n : ℕ). HasPut first base bytes n old old) (sym none) (put_none first base bytes old);
      put_then = subst (λ (n : ℕ). HasPut second base bytes n old old) (sym none) (put_none second base bytes old);
    }

-- a text that is closed throughout the puts is closed with the span set at once
pub closed_at_last : (first second : ℕ → Bool) (base : ℕ) (bytes : List ℕ) (old : MarkedText) (marks : List Mark) → 65536 ≤ base
    → base + length bytes ≤ 65536 + length old.bytes → ((at : ℕ) → second at ≡ false → first at ≡ true)
    → ClosedThroughout first second base bytes old marks → IsClosed (with_span old.bytes (base - 65536) bytes) marks
closed_at_last first second base bytes old marks low fits others closed =
    let turns = put_in_turn first second base bytes old.bytes low fits others in
    closed.after turns.between turns.put_first (length bytes) (with_span old.bytes (base - 65536) bytes) (omega arith) turns.put_then

-- a place that isn't a bundle start is inside its bundle
pub inside_else : (at : ℕ) → is_start at ≡ false → is_inside at ≡ true
inside_else at not_start = ap not not_start

-- a place that isn't unmarked is marked
pub marked_else : (marks : List Mark) (at : ℕ) → is_unmarked_at marks at ≡ false → is_marked_at marks at ≡ true
marked_else marks at = not_false (is_marked_at marks at)
  where
    not_false : (b : Bool) → not b ≡ false → b ≡ true
    not_false true e = refl
    not_false false e = sym e
