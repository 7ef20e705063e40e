-- Bytes put one at a time at some of the places of a span: what they leave, and when the text is closed after each.
use Rattle.std.specs.Prelude.{◌≡◌, ℕ, ◌+◌, ◌-◌, ◌%◌, ◌==◌, ◌<◌, ◌≤◌, Bool, not, true, false, List, length, slice_index}
use Rattle.nc_decode.specs.declared.instruction.Mark.{Mark}
use Rattle.nc_decode.specs.declared.instruction.Mark.TheVariants.{Unmarked, Plain, After}
use Rattle.nc_text.specs.Marks.{IsClosed, mark_at}
use Rattle.nc_text.specs.MarkedText.{MarkedText}
use Rattle.nc_text.specs.Places.{byte_at}

-- The first `count` bytes of the list are put at the chosen places from `base` on, and nothing else is changed.
pub record HasPut (chosen : ℕ → Bool) (base : ℕ) (bytes : List ℕ) (count : ℕ) (old new : List ℕ) : Type 0 where
  pub as_long : length new ≡ length old
  pub put : (at : ℕ) → base ≤ at → at < base + count → chosen at ≡ true → byte_at new at ≡ slice_index bytes (at - base)
  pub passed : (at : ℕ) → base ≤ at → chosen at ≡ false → byte_at new at ≡ byte_at old at
  pub below : (at : ℕ) → 0x10000 ≤ at → at < base → byte_at new at ≡ byte_at old at
  pub above : (at : ℕ) → base + count ≤ at → byte_at new at ≡ byte_at old at

-- The bytes of the list are put at the chosen places from `base` on, one at a time and in ascending order. The text is closed before
-- the first put and after each.
abbrev pub ClosedAfterEach : (ℕ → Bool) → ℕ → List ℕ → List ℕ → List Mark → Type 0
ClosedAfterEach chosen base bytes text marks =
    (count : ℕ) (now : List ℕ) → count ≤ length bytes → HasPut chosen base bytes count text now → IsClosed now marks

-- The bytes of the list are put as above at the places of the first choice, then the marks become these, and then the bytes are put at
-- the places of the second choice. The text is closed after each of these changes.
pub record ClosedThroughout (first second : ℕ → Bool) (base : ℕ) (bytes : List ℕ) (old : MarkedText) (marks : List Mark) : Type 0 where
  pub before : ClosedAfterEach first base bytes old.bytes old.marks
  pub after : (between : List ℕ) → HasPut first base bytes (length bytes) old.bytes between → ClosedAfterEach second base bytes between marks

-- The bytes of the list are put at the places of the first choice, and then at those of the second, and nothing else is changed.
pub record HasPutInTurn (first second : ℕ → Bool) (base : ℕ) (bytes old new : List ℕ) : Type 0 where
  pub between : List ℕ
  pub put_first : HasPut first base bytes (length bytes) old between
  pub put_then : HasPut second base bytes (length bytes) between new

-- the place is a bundle start
abbrev pub is_start : ℕ → Bool
is_start at = at % 32 == 0

-- the place isn't a bundle start
abbrev pub is_inside : ℕ → Bool
is_inside at = not (is_start at)

-- the mark stands for some state
abbrev pub is_mark : Mark → Bool
is_mark Unmarked = false
is_mark Plain = true
is_mark (After register) = true

-- the place is marked
abbrev pub is_marked_at : List Mark → ℕ → Bool
is_marked_at marks at = is_mark (mark_at marks at)

-- the place is not marked
abbrev pub is_unmarked_at : List Mark → ℕ → Bool
is_unmarked_at marks at = not (is_marked_at marks at)

-- the bundle starts, or all other places
abbrev pub starts_if : Bool → ℕ → Bool
starts_if true = is_start
starts_if false = is_inside

-- the marked places, or all other places
abbrev pub marked_if : Bool → List Mark → ℕ → Bool
marked_if true = is_marked_at
marked_if false = is_unmarked_at
