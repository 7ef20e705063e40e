-- The bytes and marks of a chunk in a text.
use Rattle.std.specs.Prelude.{◌≡◌, ℕ, ◌+◌, ◌<◌, List, length, slice_index}
use Rattle.nc_decode.specs.declared.instruction.Mark.{Mark}
use Rattle.nc_text.specs.Marks.{mark_at}
use Rattle.nc_text.specs.Places.{byte_at}

-- the text has these bytes from the base on
abbrev pub AreBytesAt : List ℕ → ℕ → List ℕ → Type 0
AreBytesAt text base code = (k : ℕ) → k < length code → byte_at text (base + k) ≡ slice_index code k

-- the text has these marks from the base on, at this number of places
abbrev pub AreMarksAt : List Mark → ℕ → ℕ → (ℕ → Mark) → Type 0
AreMarksAt text base len marks = (k : ℕ) → k < len → mark_at text (base + k) ≡ marks k
