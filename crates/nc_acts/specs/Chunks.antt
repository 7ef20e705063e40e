-- A chunk by itself, and in a text.
use Rattle.std.specs.Prelude.{◌≡◌, ℕ, ◌+◌, ◌<◌, ◌≤◌, List, length}
use Rattle.nc_decode.specs.declared.instruction.Mark.{Mark}
use Rattle.nc_text.specs.Marks.{IsClosed}
use Rattle.nc_text.specs.Marks.{mark_at}
use Rattle.nc_text.specs.Places.{byte_at}
use Rattle.nc_text.specs.MarkedText.{MarkedText, unused_text, unused_mark}
-- The clauses of the acts say what a text with a chunk is (`with_chunk`), and which spans a chunk may have (`HasGoodSpan`, from the rules
-- of vetting). Both are handed on, so that a crate above takes all terms of these clauses from one place.
pub use Rattle.nc_text.specs.MarkedText.{with_chunk}
pub use Rattle.nc_vet.specs.Faults.{HasGoodSpan}

-- the chunk has a good span and as many marks as bytes, and is closed by itself: in a text that is otherwise unused
pub record IsClosedChunk (base limit : ℕ) (bytes : List ℕ) (marks : List Mark) : Type 0 where
  pub placed : HasGoodSpan base limit (length bytes)
  pub as_long : length marks ≡ length bytes
  pub closed : IsClosed (with_chunk (unused_text limit) base bytes marks).bytes (with_chunk (unused_text limit) base bytes marks).marks

-- the span is unused: all F4, with only bundle starts marked
pub record IsUnused (marked : MarkedText) (base length : ℕ) : Type 0 where
  pub stops : (at : ℕ) → base ≤ at → at < base + length → byte_at marked.bytes at ≡ 0xF4
  pub unused : (at : ℕ) → base ≤ at → at < base + length → mark_at marked.marks at ≡ unused_mark at
