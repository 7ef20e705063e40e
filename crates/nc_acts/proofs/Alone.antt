-- A chunk that is closed by itself, in a text that is otherwise unused.
use Rattle.std.proofs.Common.{◌≡◌, ℕ, ◌+◌, ◌-◌, ◌<◌, ◌≤◌, List, length, get_or, arith, ◌∙◌}
use Rattle.std.proofs.lemmas.List.{length-replicate}
use Rattle.std.proofs.lemmas.List.FromFn.{length-map-range_with_len, get_or-map-range_with_len}
use Rattle.nc_decode.specs.declared.instruction.Mark.{Mark}
use Rattle.nc_decode.specs.declared.instruction.Mark.TheVariants.{Unmarked}
use Rattle.nc_text.specs.Places.{InRegion, limit_of}
use Rattle.nc_text.specs.Marks.{mark_at}
use Rattle.nc_text.specs.MarkedText.{MarkedText, unused_mark, unused_text}
use Rattle.nc_text.proofs.Offered.{length-with_span, span_within, span_before, span_behind}
use Rattle.nc_acts.specs.Chunks.{IsClosedChunk, with_chunk}

-- the text with only the chunk
abbrev pub alone : MarkedText → ℕ → List ℕ → List Mark → MarkedText
alone marked base bytes marks = with_chunk (unused_text (limit_of marked.bytes)) base bytes marks

-- how many bytes an unused text has
pub empty_bytes : (marked : MarkedText) → length (unused_text (limit_of marked.bytes)).bytes ≡ length marked.bytes
empty_bytes marked = omega (arith, length-replicate {A = ℕ} (limit_of marked.bytes - 65536) 244)

-- the unused text has as many marks as the text has bytes
pub empty_marks : (marked : MarkedText) → length (unused_text (limit_of marked.bytes)).marks ≡ length marked.bytes
empty_marks marked = omega (arith, length-map-range_with_len unused_mark 65536 (limit_of marked.bytes - 65536))

-- a chunk that is closed by itself fits into the bytes of the unused text
pub alone_fits_bytes : (marked : MarkedText) (base : ℕ) (bytes : List ℕ) (marks : List Mark)
    → IsClosedChunk base (limit_of marked.bytes) bytes marks
    → base + length bytes ≤ 65536 + length (unused_text (limit_of marked.bytes)).bytes
alone_fits_bytes marked base bytes marks j = omega (arith, empty_bytes marked, j.placed.high)

-- a chunk that is closed by itself fits into the marks of the unused text
pub alone_fits_marks : (marked : MarkedText) (base : ℕ) (bytes : List ℕ) (marks : List Mark)
    → IsClosedChunk base (limit_of marked.bytes) bytes marks
    → base + length marks ≤ 65536 + length (unused_text (limit_of marked.bytes)).marks
alone_fits_marks marked base bytes marks j = omega (arith, empty_marks marked, j.placed.high, j.as_long)

-- in the span the chunk alone has its own marks
pub alone_within : (marked : MarkedText) (base : ℕ) (bytes : List ℕ) (marks : List Mark) (at : ℕ)
    → IsClosedChunk base (limit_of marked.bytes) bytes marks → base ≤ at → at < base + length bytes
    → mark_at (alone marked base bytes marks).marks at ≡ get_or marks (at - base) Unmarked
alone_within marked base bytes marks at j low high =
    span_within (unused_text (limit_of marked.bytes)).marks base marks at Unmarked j.placed.low
    (alone_fits_marks marked base bytes marks j) low (omega (arith, j.as_long))

-- an unused text is unused
pub empty_mark : (marked : MarkedText) (at : ℕ) → InRegion marked.bytes at
    → mark_at (unused_text (limit_of marked.bytes)).marks at ≡ unused_mark at
empty_mark marked at inside = get_or-map-range_with_len unused_mark 65536 (limit_of marked.bytes - 65536) (at - 65536) at Unmarked
    (omega (arith, inside.0, inside.1)) (omega (arith, inside.0))

-- before the span only bundle starts are marked
pub alone_before : (marked : MarkedText) (base : ℕ) (bytes : List ℕ) (marks : List Mark) (at : ℕ)
    → IsClosedChunk base (limit_of marked.bytes) bytes marks → InRegion marked.bytes at → at < base
    → mark_at (alone marked base bytes marks).marks at ≡ unused_mark at
alone_before marked base bytes marks at j inside high =
    span_before (unused_text (limit_of marked.bytes)).marks base marks at Unmarked j.placed.low
    (alone_fits_marks marked base bytes marks j) inside.0 high ∙ empty_mark marked at inside

-- behind the span only bundle starts are marked
pub alone_behind : (marked : MarkedText) (base : ℕ) (bytes : List ℕ) (marks : List Mark) (at : ℕ)
    → IsClosedChunk base (limit_of marked.bytes) bytes marks → InRegion marked.bytes at → base + length bytes ≤ at
    → mark_at (alone marked base bytes marks).marks at ≡ unused_mark at
alone_behind marked base bytes marks at j inside past =
    span_behind (unused_text (limit_of marked.bytes)).marks base marks at Unmarked j.placed.low
    (alone_fits_marks marked base bytes marks j) (omega (arith, past, j.as_long)) ∙ empty_mark marked at inside

-- how many bytes the text with only the chunk has
pub alone_bytes_long : (marked : MarkedText) (base : ℕ) (bytes : List ℕ) (marks : List Mark)
    → IsClosedChunk base (limit_of marked.bytes) bytes marks → length (alone marked base bytes marks).bytes ≡ length marked.bytes
alone_bytes_long marked base bytes marks j =
    length-with_span (unused_text (limit_of marked.bytes)).bytes (base - 65536) bytes
    (omega (arith, alone_fits_bytes marked base bytes marks j, j.placed.low)) ∙ empty_bytes marked

-- the text with the chunk alone has as many marks as the text has bytes
pub alone_marks_long : (marked : MarkedText) (base : ℕ) (bytes : List ℕ) (marks : List Mark)
    → IsClosedChunk base (limit_of marked.bytes) bytes marks → length (alone marked base bytes marks).marks ≡ length marked.bytes
alone_marks_long marked base bytes marks j =
    length-with_span (unused_text (limit_of marked.bytes)).marks (base - 65536) marks
    (omega (arith, alone_fits_marks marked base bytes marks j, j.placed.low)) ∙ empty_marks marked
