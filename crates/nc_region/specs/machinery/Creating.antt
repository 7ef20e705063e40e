-- Putting a chunk into its span.
use Rattle.std.specs.Prelude.{◌≡◌, ℕ, Bool, List, length}
use Rattle.nc_decode.specs.declared.instruction.Mark.{Mark}
use Rattle.nc_text.specs.Places.{limit_of}
use Rattle.nc_text.specs.Ready.{AreReady}
use Rattle.nc_text.specs.MarkedText.{MarkedText, IsText}
use Rattle.nc_acts.specs.declared.acts.Entry.{Entry}
use Rattle.nc_acts.specs.Chunks.{IsClosedChunk, IsUnused, with_chunk}
use Rattle.nc_acts.specs.Log.{Logs, log_of_create}

-- A chunk may be put at this base of a closed text. The chunk is closed by itself, and its span is unused and ready.
pub record CanPutChunk (marked : MarkedText) (made : List Bool) (base : ℕ) (code : List ℕ) (marks : List Mark) : Type 0 where
  pub whole : IsText marked
  pub chunk : IsClosedChunk base (limit_of marked.bytes) code marks
  pub unused : IsUnused marked base (length code)
  pub ready : AreReady made base (length code)

-- The chunk has been put at this base of the text, which is still closed, and the entries of a creation are logged.
pub record HasPutChunk (old new : MarkedText) (logged logged_now : List Entry) (base : ℕ) (code : List ℕ) (marks : List Mark) : Type 0 where
  pub marked : new ≡ with_chunk old base code marks
  pub whole : IsText new
  pub log : Logs logged logged_now (log_of_create base code)
