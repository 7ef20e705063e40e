-- A chunk that is closed by itself, set into an unused span of a closed text, leaves it closed.
use Rattle.std.proofs.Common.{◌≡◌, ◌≢◌, ℕ, ◌+◌, ◌-◌, ◌%◌, ◌<◌, ◌≤◌, not, List, length, get_or, inl, inr, arith, refl, ◌∙◌, sym, subst}
use Rattle.std.proofs.lemmas.Bool.Decides.{nat_tests}
use Rattle.nc_decode.specs.declared.instruction.Mark.{Mark}
use Rattle.nc_decode.specs.declared.instruction.Mark.TheVariants.{Unmarked, Plain, After}
use Rattle.nc_text.specs.Places.{InRegion, limit_of}
use Rattle.nc_decode.specs.Bundles.{IsBundleStart}
use Rattle.nc_text.specs.Machine.{State}
use Rattle.nc_text.specs.Marks.{IsMarked, IsClosed, mark_at, Admits}
use Rattle.nc_text.specs.MarkedText.{MarkedText, unused_mark, unused_text, StaysOrPlain, KeepsMarks}
use Rattle.nc_text.proofs.Offered.{Borrows, closed_by_parts, length-with_span, marked_within, plain_is_marked}
use Rattle.nc_acts.specs.Chunks.{IsClosedChunk, with_chunk}
use Rattle.nc_acts.specs.Chunks.{IsUnused}
use Rattle.nc_acts.proofs.Alone.{alone, alone_fits_bytes, alone_within, alone_before, alone_behind, alone_bytes_long, alone_marks_long}
use Rattle.nc_text.proofs.Offered.{Before, Within, Behind, place_of, span_within, span_before, span_behind}
use Rattle.nc_acts.proofs.Places.{unused_is_start, start_or_not, unused_at_start, before_span, within_span}

-- a chunk that is closed by itself may stand in an unused span
pub record Joins (marked : MarkedText) (base : ℕ) (bytes : List ℕ) (marks : List Mark) : Type 0 where
  pub closed : IsClosed marked.bytes marked.marks
  pub as_long : length marked.marks ≡ length marked.bytes
  pub chunk : IsClosedChunk base (limit_of marked.bytes) bytes marks
  pub unused : IsUnused marked base (length bytes)

-- the chunk fits into bytes and marks
fits_bytes : (marked : MarkedText) (base : ℕ) (bytes : List ℕ) (marks : List Mark) → Joins marked base bytes marks
    → base + length bytes ≤ 65536 + length marked.bytes
fits_bytes marked base bytes marks j = omega (arith, j.chunk.placed.high)

-- the chunk's marks fit into those of the text
fits_marks : (marked : MarkedText) (base : ℕ) (bytes : List ℕ) (marks : List Mark) → Joins marked base bytes marks
    → base + length marks ≤ 65536 + length marked.marks
fits_marks marked base bytes marks j = omega (arith, j.chunk.placed.high, j.as_long, j.chunk.as_long)

-- the mark that the text with the chunk has, by the place
marks_within : (marked : MarkedText) (base : ℕ) (bytes : List ℕ) (marks : List Mark) (at : ℕ) → Joins marked base bytes marks → base ≤ at
    → at < base + length bytes → mark_at (with_chunk marked base bytes marks).marks at ≡ get_or marks (at - base) Unmarked
marks_within marked base bytes marks at j low high =
    span_within marked.marks base marks at Unmarked j.chunk.placed.low (fits_marks marked base bytes marks j) low
    (omega (arith, j.chunk.as_long))

-- the marks before the chunk
marks_before : (marked : MarkedText) (base : ℕ) (bytes : List ℕ) (marks : List Mark) (at : ℕ) → Joins marked base bytes marks
    → 65536 ≤ at → at < base → mark_at (with_chunk marked base bytes marks).marks at ≡ mark_at marked.marks at
marks_before marked base bytes marks at j low high =
    span_before marked.marks base marks at Unmarked j.chunk.placed.low (fits_marks marked base bytes marks j) low high

-- behind the chunk that joins a text the marks stay
marks_behind : (marked : MarkedText) (base : ℕ) (bytes : List ℕ) (marks : List Mark) (at : ℕ) → Joins marked base bytes marks
    → base + length bytes ≤ at → mark_at (with_chunk marked base bytes marks).marks at ≡ mark_at marked.marks at
marks_behind marked base bytes marks at j past =
    span_behind marked.marks base marks at Unmarked j.chunk.placed.low (fits_marks marked base bytes marks j)
    (omega (arith, j.chunk.as_long))

-- in the text with the chunk every bundle start is plain
chunk_starts : (marked : MarkedText) (base : ℕ) (bytes : List ℕ) (marks : List Mark) → Joins marked base bytes marks → (at : ℕ)
    → InRegion marked.bytes at → IsBundleStart at → mark_at (with_chunk marked base bytes marks).marks at ≡ Plain
chunk_starts marked base bytes marks j at inside start =
    elim (place_of base (length bytes) at) [
      | Before l ↦ marks_before marked base bytes marks at j inside.0 l ∙ j.closed.starts at inside start
      | Within low high ↦
          marks_within marked base bytes marks at j low high ∙ (sym (alone_within marked base bytes marks at j.chunk low high)
          ∙ j.chunk.closed.starts at (inside.0, omega (arith, inside.1, alone_bytes_long marked base bytes marks j.chunk)) start)
      | Behind p ↦ marks_behind marked base bytes marks at j p ∙ j.closed.starts at inside start
    ]

-- what was marked in the old text is marked in the text with the chunk
old_marked : (marked : MarkedText) (base : ℕ) (bytes : List ℕ) (marks : List Mark) → Joins marked base bytes marks → (now : State)
    → IsMarked marked.marks now → IsMarked (with_chunk marked base bytes marks).marks now
old_marked marked base bytes marks j now m =
    elim (place_of base (length bytes) now.place) [
      | Before l ↦ (
        m.0,
        subst (λ (mark : Mark). Admits mark now.masked)
            (sym (marks_before marked base bytes marks now.place j m.0 l)) m.1,
      )
      | Within low high ↦
          plain_is_marked (with_chunk marked base bytes marks).marks now m.0
          (chunk_starts marked base bytes marks j now.place (m.0, omega (arith, marked_within marked.marks now m, j.as_long))
          (unused_is_start now.place now.masked
          (subst (λ (mark : Mark). Admits mark now.masked) (j.unused.unused now.place low high) m.1)))
      | Behind p ↦ (m.0, subst (λ (mark : Mark). Admits mark now.masked) (sym (marks_behind marked base bytes marks now.place j p)) m.1)
    ]

-- what is marked for the chunk alone is marked in the text with the chunk
alone_marked : (marked : MarkedText) (base : ℕ) (bytes : List ℕ) (marks : List Mark) → Joins marked base bytes marks → (now : State)
    → IsMarked (alone marked base bytes marks).marks now → IsMarked (with_chunk marked base bytes marks).marks now
alone_marked marked base bytes marks j now m =
    let inside : InRegion marked.bytes now.place = (
      m.0,
      omega (
        arith,
        marked_within (alone marked base bytes marks).marks now m,
        alone_marks_long marked base bytes marks j.chunk,
      ),
    ) in
    let at_start : mark_at (alone marked base bytes marks).marks now.place ≡ unused_mark now.place
    → IsMarked (with_chunk marked base bytes marks).marks now = λ is.
    plain_is_marked (with_chunk marked base bytes marks).marks now m.0
    (chunk_starts marked base bytes marks j now.place inside
    (unused_is_start now.place now.masked (subst (λ (mark : Mark). Admits mark now.masked) is m.1))) in
    elim (place_of base (length bytes) now.place) [
      | Before l ↦ at_start (alone_before marked base bytes marks now.place j.chunk inside l)
      | Within low high ↦ (
        m.0,
        subst (λ (mark : Mark). Admits mark now.masked)
            (alone_within marked base bytes marks now.place j.chunk low high
            ∙ sym (marks_within marked base bytes marks now.place j low high)) m.1,
      )
      | Behind p ↦ at_start (alone_behind marked base bytes marks now.place j.chunk inside p)
    ]

-- how long the text with the chunk is
chunk_bytes_long : (marked : MarkedText) (base : ℕ) (bytes : List ℕ) (marks : List Mark) → Joins marked base bytes marks
    → length (with_chunk marked base bytes marks).bytes ≡ length marked.bytes
chunk_bytes_long marked base bytes marks j =
    length-with_span marked.bytes (base - 65536) bytes (omega (arith, fits_bytes marked base bytes marks j, j.chunk.placed.low))

-- a state in the span borrows from the chunk alone
borrows_alone : (marked : MarkedText) (base : ℕ) (bytes : List ℕ) (marks : List Mark) → Joins marked base bytes marks → (now : State)
    → base ≤ now.place → now.place < base + length bytes → IsMarked (with_chunk marked base bytes marks).marks now
    → Borrows (with_chunk marked base bytes marks).bytes (with_chunk marked base bytes marks).marks now
borrows_alone marked base bytes marks j now low high m =
    record {
      old = (alone marked base bytes marks).bytes;
      old_marks = (alone marked base bytes marks).marks;
      closed = j.chunk.closed;
      as_long = chunk_bytes_long marked base bytes marks j ∙ sym (alone_bytes_long marked base bytes marks j.chunk);
      was_marked = (
        m.0,
        subst (λ (mark : Mark). Admits mark now.masked) (marks_within marked base bytes marks now.place j low high
            ∙ sym (alone_within marked base bytes marks now.place j.chunk low high)) m.1,
      );
      kept = λ i is fits k lt.
          let from : base ≤ now.place + k = omega arith in
          let to : now.place + k < base + length bytes =
          within_span now.place i.len k base (length bytes) fits lt j.chunk.placed.start j.chunk.placed.whole high in
          span_within marked.bytes base bytes (now.place + k) 0 j.chunk.placed.low (fits_bytes marked base bytes marks j) from to
          ∙ sym (span_within (unused_text (limit_of marked.bytes)).bytes base bytes (now.place + k) 0 j.chunk.placed.low
          (alone_fits_bytes marked base bytes marks j.chunk) from to);
      more = alone_marked marked base bytes marks j;
    }

-- the text with the chunk is closed
pub chunk_joins : (marked : MarkedText) (base : ℕ) (bytes : List ℕ) (marks : List Mark) → Joins marked base bytes marks
    → IsClosed (with_chunk marked base bytes marks).bytes (with_chunk marked base bytes marks).marks
chunk_joins marked base bytes marks j =
    closed_by_parts (with_chunk marked base bytes marks).bytes (with_chunk marked base bytes marks).marks
    (λ at inside start. chunk_starts marked base bytes marks j at
    (inside.0, omega (arith, inside.1, chunk_bytes_long marked base bytes marks j)) start)
    (λ now m.
    elim (place_of base (length bytes) now.place) [
      | Before l ↦
          inr (record {
            old = marked.bytes;
            old_marks = marked.marks;
            closed = j.closed;
            as_long = chunk_bytes_long marked base bytes marks j;
            was_marked = (
              m.0,
              subst (λ (mark : Mark). Admits mark now.masked)
                  (marks_before marked base bytes marks now.place j m.0 l) m.1,
            );
            kept = λ i is fits k lt. span_before marked.bytes base bytes (now.place + k) 0 j.chunk.placed.low
                (fits_bytes marked base bytes marks j) (omega (arith, m.0))
                (before_span now.place i.len k base fits lt j.chunk.placed.start l);
            more = old_marked marked base bytes marks j;
          })
      | Within low high ↦ inr (borrows_alone marked base bytes marks j now low high m)
      | Behind p ↦
          inr (record {
            old = marked.bytes;
            old_marks = marked.marks;
            closed = j.closed;
            as_long = chunk_bytes_long marked base bytes marks j;
            was_marked = (m.0, subst (λ (mark : Mark). Admits mark now.masked) (marks_behind marked base bytes marks now.place j p) m.1);
            kept = λ i is fits k lt. span_behind marked.bytes base bytes (now.place + k) 0 j.chunk.placed.low
                (fits_bytes marked base bytes marks j) (omega arith);
            more = old_marked marked base bytes marks j;
          })
    ])

-- a mark that stays what it is stays or is plain
stays_same : (mark : Mark) → StaysOrPlain mark mark
stays_same Unmarked = tt
stays_same Plain = refl
stays_same (After register) = inl refl

-- inside a bundle an unused place is unmarked
not_unused : (at : ℕ) → at % 32 ≢ 0 → unused_mark at ≡ Unmarked
not_unused at not = grind (arith, nat_tests)

-- no state loses its mark to the chunk
pub chunk_keeps : (marked : MarkedText) (base : ℕ) (bytes : List ℕ) (marks : List Mark) → Joins marked base bytes marks
    → KeepsMarks marked.marks (with_chunk marked base bytes marks).marks
chunk_keeps marked base bytes marks j k =
    let e : 65536 + k - 65536 ≡ k = omega arith in
    subst (λ (n : ℕ). StaysOrPlain (get_or marked.marks n Unmarked) (get_or (with_chunk marked base bytes marks).marks n Unmarked)) e
    (elim (place_of base (length bytes) (65536 + k)) [
      | Before l ↦ subst (λ (mark : Mark). StaysOrPlain (mark_at marked.marks (65536 + k)) mark)
          (sym (marks_before marked base bytes marks (65536 + k) j (omega arith) l)) (stays_same (mark_at marked.marks (65536 + k)))
      | Within a b ↦
          elim (start_or_not (65536 + k)) [
            | inl start ↦
                subst (λ (mark : Mark). StaysOrPlain mark (mark_at (with_chunk marked base bytes marks).marks (65536 + k)))
                (sym (j.unused.unused (65536 + k) a b ∙ unused_at_start (65536 + k) start.1))
                (chunk_starts marked base bytes marks j (65536 + k)
                (omega arith, omega (arith, b, fits_bytes marked base bytes marks j)) start.1)
            | inr inside ↦ subst (λ (mark : Mark). StaysOrPlain mark (mark_at (with_chunk marked base bytes marks).marks (65536 + k)))
                (sym (j.unused.unused (65536 + k) a b ∙ not_unused (65536 + k) inside.1)) tt
          ]
      | Behind p ↦ subst (λ (mark : Mark). StaysOrPlain (mark_at marked.marks (65536 + k)) mark)
          (sym (marks_behind marked base bytes marks (65536 + k) j p)) (stays_same (mark_at marked.marks (65536 + k)))
    ])
