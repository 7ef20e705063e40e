-- Places that have no fault, by their class and their byte alone.
use Rattle.std.specs.Prelude.{◌≡◌, ℕ, ◌<◌, ◌+◌, Bool, true, false, not, List, get_or, slice_index}
use Rattle.std.specs.Int.{bit_at}
use Rattle.nc_decode.specs.Transfers.{may_transfer}
use Rattle.nc_reading.specs.declared.class.Class.{Class}
use Rattle.nc_reading.specs.declared.class.Class.TheVariants.{Inside, Skipped, Entry, Second}

-- A place whose byte has this class and this value has no fault, whatever the targets of transfers. Either no fault begins at
-- a byte of the class, or it is an entry and the value begins no direct transfer.
abbrev pub is_quiet : Class → ℕ → Bool
is_quiet Inside byte = true
is_quiet Skipped byte = true
is_quiet Second byte = true
is_quiet Entry byte = not (may_transfer byte)
is_quiet _ byte = false

-- where bit k is 0, the place `at + k` is quiet; after the last byte all places are
abbrev pub AreCandidates : List ℕ → List Class → ℕ → ℕ → Type 0
AreCandidates code classes at bits =
    (k : ℕ) → k < 32 → bit_at bits k ≡ 0 → is_quiet (get_or classes (at + k) Inside) (slice_index code (at + k)) ≡ true
