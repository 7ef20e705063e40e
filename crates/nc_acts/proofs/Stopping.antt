-- While a chunk is turned into stops, the text stays closed.
use Rattle.std.proofs.Common.{◌≡◌, ℕ, ◌+◌, ◌-◌, ◌<◌, ◌≤◌, Bool, true, false, not, List, length, get_or, replicate, Option}
use Rattle.std.proofs.Common.{inl, inr, arith, refl, ◌∙◌, sym, ap, subst}
use Rattle.std.proofs.lemmas.List.{get_or-replicate, length-replicate, ext_get_or}
use Rattle.nc_decode.specs.declared.instruction.Mark.{Mark}
use Rattle.nc_decode.specs.declared.instruction.Mark.TheVariants.{Unmarked, Plain, After}
use Rattle.nc_text.specs.Places.{limit_of, byte_at}
use Rattle.nc_text.specs.Marks.{IsClosed, mark_at, Admits}
use Rattle.nc_text.specs.MarkedText.{MarkedText, with_span}
use Rattle.nc_text.proofs.Offered.{closed_with_stops, length-with_span}
use Rattle.nc_text.proofs.Offered.{place_of, Before, Within, Behind, span_before, span_within, span_behind}
use Rattle.nc_acts.specs.Acts.{is_mark, is_marked_at, is_unmarked_at}
use Rattle.nc_acts.specs.Chunks.{HasGoodSpan}
use Rattle.nc_text.specs.Puts.{HasPut, ClosedThroughout}
use Rattle.nc_acts.proofs.Places.{before_span}

-- a mark that stands for a state is a mark
pub admits_is_mark : (mark : Mark) (masked : Option ℕ) → Admits mark masked → is_mark mark ≡ true
admits_is_mark Unmarked masked m = absurd m
admits_is_mark Plain masked m = refl
admits_is_mark (After register) masked m = refl

-- each byte of a span of stops is a stop
stop_byte : (base len at : ℕ) → base ≤ at → at < base + len → get_or (replicate {A = ℕ} len 244) (at - base) 0 ≡ 244
stop_byte base len at low high = get_or-replicate len (at - base) 244 0 (omega arith)

-- while stops are put at marked places the text is closed
pub marked_closed : (old : MarkedText) (now : List ℕ) (base len count : ℕ) → HasGoodSpan base (limit_of old.bytes) len → count ≤ len
    → IsClosed old.bytes old.marks → HasPut (is_marked_at old.marks) base (replicate len 244) count old.bytes now → IsClosed now old.marks
marked_closed old now base len count placed le closed puts =
    closed_with_stops old.bytes now old.marks closed puts.as_long (λ s m.
    elim (place_of base count s.place) [
      | Before l ↦ inr (λ i is fits k lt. puts.below (s.place + k) (omega (arith, m.0))
          (before_span s.place i.len k base fits lt placed.start l))
      | Within a b ↦ inl (puts.put s.place a b (admits_is_mark (mark_at old.marks s.place) s.masked m.1)
          ∙ stop_byte base len s.place a (omega arith))
      | Behind p ↦ inr (λ i is fits k lt. puts.above (s.place + k) (omega arith))
    ])

-- while stops are put at unmarked places, with stops at all marked ones, the text is closed
pub others_closed : (old : MarkedText) (now : List ℕ) (base len count : ℕ) → HasGoodSpan base (limit_of old.bytes) len → count ≤ len
    → IsClosed old.bytes old.marks → ((at : ℕ) → base ≤ at → at < base + len → is_marked_at old.marks at ≡ true
    → byte_at old.bytes at ≡ 244) → HasPut (is_unmarked_at old.marks) base (replicate len 244) count old.bytes now → IsClosed now old.marks
others_closed old now base len count placed le closed stopped puts =
    closed_with_stops old.bytes now old.marks closed puts.as_long (λ s m.
    elim (place_of base len s.place) [
      | Before l ↦ inr (λ i is fits k lt. puts.below (s.place + k) (omega (arith, m.0))
          (before_span s.place i.len k base fits lt placed.start l))
      | Within a b ↦
          let is = admits_is_mark (mark_at old.marks s.place) s.masked m.1 in
          inl (puts.passed s.place a (ap not is) ∙ stopped s.place a b is)
      | Behind p ↦ inr (λ i is fits k lt. puts.above (s.place + k) (omega arith))
    ])

-- while stops are put at marked places and then at the others, the text is closed
pub stops_closed_throughout : (old : MarkedText) (base len : ℕ) → HasGoodSpan base (limit_of old.bytes) len → IsClosed old.bytes old.marks
    → ClosedThroughout (is_marked_at old.marks) (is_unmarked_at old.marks) base (replicate len 244) old old.marks
stops_closed_throughout old base len placed closed =
    let n = length-replicate {A = ℕ} len 244 in
    record {
      before = λ count now few puts. marked_closed old now base len count placed (omega (arith, few, n)) closed puts;
      after = λ between first count now few puts.
          let all = subst (λ (m : ℕ). HasPut (is_marked_at old.marks) base (replicate len 244) m old.bytes between) n first in
          others_closed (record { bytes = between; marks = old.marks }) now base len count
          (subst (λ (m : ℕ). HasGoodSpan base (65536 + m) len) (sym first.as_long) placed) (omega (arith, few, n))
          (marked_closed old between base len len placed (omega arith) closed all)
          (λ at low high marked. all.put at low high marked ∙ stop_byte base len at low high) puts;
    }

-- a place has a byte if it does where it is marked and where it is not
within_stop : (marks : List Mark) (at : ℕ) (b : Bool) → is_marked_at marks at ≡ b → (now : List ℕ) (byte : ℕ)
    → (is_marked_at marks at ≡ true → byte_at now at ≡ byte) → (is_marked_at marks at ≡ false → byte_at now at ≡ byte)
    → byte_at now at ≡ byte
within_stop marks at true is now byte marked other = marked is
within_stop marks at false is now byte marked other = other is

-- after the stops at marked places and those at the others, all bytes of the span are stops
pub all_stops : (old mid now : List ℕ) (marks : List Mark) (base len : ℕ) → 65536 ≤ base → base + len ≤ 65536 + length old
    → HasPut (is_marked_at marks) base (replicate len 244) len old mid
    → HasPut (is_unmarked_at marks) base (replicate len 244) len mid now → now ≡ with_span old (base - 65536) (replicate len 244)
all_stops old mid now marks base len low fits first second =
    let n = length-replicate {A = ℕ} len 244 in
    let long = length-with_span old (base - 65536) (replicate len 244) (omega (arith, n)) in
    let fits' : base + length (replicate {A = ℕ} len 244) ≤ 65536 + length old = omega (arith, n) in
    ext_get_or 0 now (with_span old (base - 65536) (replicate len 244)) (second.as_long ∙ (first.as_long ∙ sym long)) (λ k lt.
    let e : 65536 + k - 65536 ≡ k = omega arith in
    subst (λ (i : ℕ). get_or now i 0 ≡ get_or (with_span old (base - 65536) (replicate len 244)) i 0) e
    (elim (place_of base len (65536 + k)) [
      | Before l ↦ second.below (65536 + k) (omega arith) l
          ∙ (first.below (65536 + k) (omega arith) l
          ∙ sym (span_before old base (replicate len 244) (65536 + k) 0 low fits' (omega arith) l))
      | Within a b ↦
          within_stop marks (65536 + k) (is_marked_at marks (65536 + k)) refl now (get_or (replicate len 244) (65536 + k - base) 0)
          (λ is. second.passed (65536 + k) a (ap not is) ∙ first.put (65536 + k) a b is)
          (λ is. second.put (65536 + k) a b (ap not is))
          ∙ sym (span_within old base (replicate len 244) (65536 + k) 0 low fits' a (omega (arith, n)))
      | Behind p ↦ second.above (65536 + k) p
          ∙ (first.above (65536 + k) p ∙ sym (span_behind old base (replicate len 244) (65536 + k) 0 low fits' (omega (arith, n))))
    ]))

-- two texts of the same bytes and marks
pub same_code : (a b : MarkedText) → a.bytes ≡ b.bytes → a.marks ≡ b.marks → a ≡ b
same_code a b bytes marks =
    let one : a ≡ record { bytes = b.bytes; marks = a.marks } = ap (λ (x : List ℕ). record { bytes = x; marks = a.marks }) bytes in
    let two : record { bytes = b.bytes; marks = a.marks } ≡ b = ap (λ (x : List Mark). record { bytes = b.bytes; marks = x }) marks in
    one ∙ two
