-- The marks of one bundle, as five masks of 32 bits.
use Rattle.std.specs.Prelude.{ℕ, ◌+◌, ◌*◌, ◌==◌, if◌then◌else◌}
use Rattle.std.specs.Int.{bit_at}
use Rattle.nc_decode.specs.declared.instruction.Mark.{Mark}
use Rattle.nc_decode.specs.declared.instruction.Mark.TheVariants.{Unmarked, Plain, After}
use Rattle.nc_text.specs.declared.masks.Masks.{Masks}

-- the register that the three register bits of place k name
abbrev pub register_in : Masks → ℕ → ℕ
register_in masks k = bit_at masks.low k + 2 * bit_at masks.middle k + 4 * bit_at masks.high k

-- the mark of place k of the bundle
abbrev pub mark_in : Masks → ℕ → Mark
mark_in masks k =
    if bit_at masks.starts k == 1 then Plain else (if bit_at masks.seconds k == 1 then After (register_in masks k) else Unmarked)

-- the marks of a bundle that no chunk uses
abbrev pub unused_masks : Masks
unused_masks = record { starts = 1; seconds = 0; low = 0; middle = 0; high = 0 }

-- 1 for `Plain`: the start of an instruction that may be entered whatever was masked
abbrev pub plain_bit : Mark → ℕ
plain_bit Plain = 1
plain_bit _ = 0

-- 1 for `After`: the second half of a pair
abbrev pub second_bit : Mark → ℕ
second_bit (After register) = 1
second_bit _ = 0
