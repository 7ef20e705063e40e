-- While a chunk is created, the text stays closed.
use Rattle.std.proofs.Common.{◌≡◌, ◌≢◌, ℕ, ◌+◌, ◌-◌, ◌%◌, ◌<◌, ◌≤◌, List, length, get_or, inl, inr, arith, ◌∙◌, sym, subst, ⊎_elim}
use Rattle.std.proofs.lemmas.Bool.{cases_lt}
use Rattle.std.proofs.lemmas.List.{ext_get_or}
use Rattle.nc_decode.specs.declared.instruction.Mark.{Mark}
use Rattle.nc_decode.specs.Bundles.{IsBundleStart}
use Rattle.nc_text.specs.Places.{byte_at, limit_of}
use Rattle.nc_text.specs.Marks.{IsClosed, Admits}
use Rattle.nc_text.specs.MarkedText.{MarkedText, with_span}
use Rattle.nc_text.proofs.Offered.{closed_with_stops, length-with_span}
use Rattle.nc_acts.specs.Acts.{is_inside, is_start}
use Rattle.nc_acts.specs.Chunks.{HasGoodSpan, with_chunk}
use Rattle.nc_text.specs.Puts.{HasPut, ClosedThroughout}
use Rattle.nc_acts.specs.Chunks.{IsUnused}
use Rattle.nc_text.proofs.Offered.{Before, Within, Behind, place_of, span_within, span_before, span_behind}
use Rattle.nc_acts.proofs.Places.{unused_is_start, is_inside_false, is_inside_true, is_start_true, is_start_false, start_or_not, before_span}
use Rattle.nc_acts.proofs.Joining.{Joins, chunk_joins}

-- The text is the final one, except that the bundle starts from `from` to below `to` hold F4.
pub record IsFinalBut (final now : List ℕ) (from to : ℕ) : Type 0 where
  pub as_long : length now ≡ length final
  pub stops : (at : ℕ) → from ≤ at → at < to → IsBundleStart at → byte_at now at ≡ 0xF4
  pub before : (at : ℕ) → 0x10000 ≤ at → at < from → byte_at now at ≡ byte_at final at
  pub behind : (at : ℕ) → to ≤ at → byte_at now at ≡ byte_at final at
  pub inside : (at : ℕ) → 0x10000 ≤ at → at % 32 ≢ 0 → byte_at now at ≡ byte_at final at

-- the bytes that aren't bundle starts may be put while the span is unused
pub inside_closed : (old : MarkedText) (new : List ℕ) (base : ℕ) (bytes : List ℕ) (count : ℕ)
    → HasGoodSpan base (limit_of old.bytes) (length bytes) → count ≤ length bytes → IsClosed old.bytes old.marks
    → IsUnused old base (length bytes) → HasPut is_inside base bytes count old.bytes new → IsClosed new old.marks
inside_closed old new base bytes count placed le closed unused puts =
    closed_with_stops old.bytes new old.marks closed puts.as_long (λ now m.
    elim (place_of base (length bytes) now.place) [
      | Before l ↦ inr (λ i is fits k lt. puts.below (now.place + k) (omega (arith, m.0))
          (before_span now.place i.len k base fits lt placed.start l))
      | Within low high ↦
          inl (let start = unused_is_start now.place now.masked
          (subst (λ (mark : Mark). Admits mark now.masked) (unused.unused now.place low high) m.1) in
          puts.passed now.place low (is_inside_false now.place start) ∙ unused.stops now.place low high)
      | Behind p ↦ inr (λ i is fits k lt. puts.above (now.place + k) (omega arith))
    ])

-- a final text in which some bundle starts are still stops is closed
pub final_but_closed : (final now : List ℕ) (marks : List Mark) (from to : ℕ) → from ≤ to → IsClosed final marks
    → IsFinalBut final now from to → IsClosed now marks
final_but_closed final now marks from to order closed f =
    closed_with_stops final now marks closed f.as_long (λ s m.
    elim (place_of from (to - from) s.place) [
      | Before l ↦ inr (λ i is fits k lt.
          elim (start_or_not (s.place + k)) [
            | inl start ↦ f.before (s.place + k) (omega (arith, m.0)) (omega (arith, start.1, fits))
            | inr inside ↦ f.inside (s.place + k) (omega (arith, m.0)) inside.1
          ])
      | Within a b ↦
          elim (start_or_not s.place) [
            | inl start ↦ inl (f.stops s.place a (omega arith) start.1)
            | inr inside ↦ inr (λ i is fits k lt. f.inside (s.place + k) (omega (arith, m.0))
                (λ at_start. omega (arith, inside.1, at_start, fits, lt)))
          ]
      | Behind p ↦ inr (λ i is fits k lt. f.behind (s.place + k) (omega arith))
    ])

-- once no bundle start is left to put, the text is the final one
pub final_all : (final now : List ℕ) (at : ℕ) → IsFinalBut final now at at → now ≡ final
final_all final now at f =
    ext_get_or 0 now final f.as_long (λ i lt.
    let e : 65536 + i - 65536 ≡ i = omega arith in
    subst (λ (k : ℕ). get_or now k 0 ≡ get_or final k 0) e
    (⊎_elim (λ (b : 65536 + i < at). f.before (65536 + i) (omega arith) b) (λ (p : at ≤ 65536 + i). f.behind (65536 + i) p)
    (cases_lt (65536 + i) at)))

-- once all but the bundle starts are put, the text is the final one but for stops at the bundle starts
pub final_but_starts : (old : MarkedText) (now : List ℕ) (base : ℕ) (bytes : List ℕ) → HasGoodSpan base (limit_of old.bytes) (length bytes)
    → IsUnused old base (length bytes) → HasPut is_inside base bytes (length bytes) old.bytes now
    → IsFinalBut (with_span old.bytes (base - 65536) bytes) now base (base + length bytes)
final_but_starts old now base bytes placed unused puts =
    let fits : base + length bytes ≤ 65536 + length old.bytes = omega (arith, placed.high) in
    let long : length (with_span old.bytes (base - 65536) bytes) ≡ length old.bytes =
    length-with_span old.bytes (base - 65536) bytes (omega (arith, fits, placed.low)) in
    record {
      as_long = puts.as_long ∙ sym long;
      stops = λ at a b start. puts.passed at a (is_inside_false at start) ∙ unused.stops at a b;
      before = λ at low lt. puts.below at low lt ∙ sym (span_before old.bytes base bytes at 0 placed.low fits low lt);
      behind = λ at past. puts.above at past ∙ sym (span_behind old.bytes base bytes at 0 placed.low fits past);
      inside = λ at low not.
          elim (place_of base (length bytes) at) [
            | Before l ↦ puts.below at low l ∙ sym (span_before old.bytes base bytes at 0 placed.low fits low l)
            | Within a b ↦ puts.put at a b (is_inside_true at not) ∙ sym (span_within old.bytes base bytes at 0 placed.low fits a b)
            | Behind p ↦ puts.above at p ∙ sym (span_behind old.bytes base bytes at 0 placed.low fits p)
          ];
    }

-- once some bundle starts have the chunk's bytes, the others are still stops
pub starts_final : (old mid now : List ℕ) (base : ℕ) (bytes : List ℕ) (count : ℕ) → 65536 ≤ base
    → base + length bytes ≤ 65536 + length old → count ≤ length bytes
    → IsFinalBut (with_span old (base - 65536) bytes) mid base (base + length bytes) → HasPut is_start base bytes count mid now
    → IsFinalBut (with_span old (base - 65536) bytes) now (base + count) (base + length bytes)
starts_final old mid now base bytes count low fits few f puts =
    record {
      as_long = puts.as_long ∙ f.as_long;
      stops = λ at a b start. puts.above at a ∙ f.stops at (omega (arith, a)) b start;
      before = λ at low' lt.
          elim (cases_lt at base) [
            | inl b ↦ puts.below at low' b ∙ f.before at low' b
            | inr a ↦ elim (start_or_not at) [
              | inl start ↦ puts.put at a lt (is_start_true at start.1)
                  ∙ sym (span_within old base bytes at 0 low fits a (omega (arith, lt, few)))
              | inr inside ↦ puts.passed at a (is_start_false at inside.1) ∙ f.inside at low' inside.1
            ]
          ];
      behind = λ at past. puts.above at (omega (arith, past, few)) ∙ f.behind at past;
      inside = λ at low' not.
          elim (cases_lt at base) [
            | inl b ↦ puts.below at low' b ∙ f.inside at low' not
            | inr a ↦ puts.passed at a (is_start_false at not) ∙ f.inside at low' not
          ];
    }

-- while the chunk's bytes are put inside its bundles, its span is marked, and its bundle starts are put, the text is closed
pub chunk_closed_throughout : (marked : MarkedText) (base : ℕ) (bytes : List ℕ) (marks : List Mark) → Joins marked base bytes marks
    → ClosedThroughout is_inside is_start base bytes marked (with_chunk marked base bytes marks).marks
chunk_closed_throughout marked base bytes marks j =
    record {
      before = λ count now few puts. inside_closed marked now base bytes count j.chunk.placed few j.closed j.unused puts;
      after = λ between first count now few puts.
          final_but_closed (with_span marked.bytes (base - 65536) bytes) now (with_chunk marked base bytes marks).marks (base + count)
          (base + length bytes) (omega (arith, few)) (chunk_joins marked base bytes marks j)
          (starts_final marked.bytes between now base bytes count j.chunk.placed.low (omega (arith, j.chunk.placed.high)) few
          (final_but_starts marked between base bytes j.chunk.placed j.unused first) puts);
    }
