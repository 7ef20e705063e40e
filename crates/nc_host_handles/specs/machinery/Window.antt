-- Bytes of a text, read one after the other.
use Rattle.std.specs.Prelude.{◌≡◌, ℕ, ◌+◌, ◌<◌, ◌≤◌, List, length, slice_index}
use Rattle.nc_text.specs.Places.{limit_of, byte_at}

-- The first `count` of these bytes are those of the text from an address of the region on, up to the limit.
pub record HoldsText (text : List ℕ) (at : ℕ) (bytes : List ℕ) (count : ℕ) : Type 0 where
  pub long : length bytes ≡ 32
  pub read : (k : ℕ) → k < count → 0x10000 ≤ at → at + k < limit_of text → slice_index bytes k ≡ byte_at text (at + k)
