-- Machinery of the proofs, cited by no public contract: how instructions are counted by marks, and by bits.
use Rattle.std.specs.Prelude.{ℕ, Bool, ◌||◌}
use Rattle.std.specs.List.{count_by, range_with_len}
use Rattle.nc_decode.specs.declared.instruction.Mark.{Mark}
use Rattle.nc_decode.specs.declared.instruction.Mark.TheVariants.{Unmarked, Plain, After}
use Rattle.nc_decode.specs.declared.bundle.Bundle.{Bundle}
use Rattle.nc_decode.specs.Bits.{starts_instruction, is_second}

-- 1 for a marked place, and 0 for an unmarked one
abbrev pub count_mark : Mark → ℕ
count_mark Unmarked = 0
count_mark Plain = 1
count_mark (After reg) = 1

-- an instruction begins at this byte of the bundle
abbrev pub begins_at : Bundle → ℕ → Bool
begins_at w k = is_second w k || starts_instruction w k

-- the number of instructions that begin in the bundle
unfoldable pub begun_in : Bundle → ℕ
begun_in w = count_by (begins_at w) (range_with_len 0 32)
