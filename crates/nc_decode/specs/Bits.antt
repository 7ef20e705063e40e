-- The marks of a chunk, computed from the bits of its bundles, and the bit of a mark.
use Rattle.std.specs.Prelude.{ℕ, ◌+◌, ◌-◌, ◌/◌, ◌%◌, Bool, List, length, map, get_or, slice_index, ◌==◌, ◌||◌, if◌then◌else◌}
use Rattle.std.specs.Int.{bit_at}
use Rattle.std.specs.List.{range_with_len}
use Rattle.nc_decode.specs.declared.instruction.Mark.{Mark}
use Rattle.nc_decode.specs.declared.instruction.Mark.TheVariants.{Unmarked, Plain, After}
use Rattle.nc_decode.specs.declared.bundle.Bundle.{Bundle}

-- an instruction begins at byte k of the bundle: k is 0, or another instruction ends at byte k - 1
abbrev pub starts_instruction : Bundle → ℕ → Bool
starts_instruction w k = (k == 0) || (bit_at w.ends (k - 1) == 1)

-- an indirect transfer, which has two bytes, begins at byte k of the bundle
abbrev pub is_second : Bundle → ℕ → Bool
is_second w k = bit_at w.pairs (k + 1) == 1

-- the mark at byte k of a bundle; `next`, the byte after it, names the register of an indirect transfer
abbrev pub bit_mark : Bundle → ℕ → ℕ → Mark
bit_mark w k next = if is_second w k then After (next % 8) else (if starts_instruction w k then Plain else Unmarked)

-- a bundle without instructions
abbrev pub no_bits : Bundle
no_bits = record { ends = 0; pairs = 0; shorts = 0; nears = 0 }

-- the mark at offset k of a chunk, by the bits of its bundles
abbrev pub mark_by_bits : List ℕ → List Bundle → ℕ → Mark
mark_by_bits code bundles k = bit_mark (get_or bundles (k / 32) no_bits) (k % 32) (slice_index code (k + 1))

-- the marks at all offsets of a chunk, by the bits of its bundles
abbrev pub marks_in : List ℕ → List Bundle → List Mark
marks_in code bundles = map (mark_by_bits code bundles) (range_with_len 0 (length code))

-- 1 for a mark that admits some state, 0 for `Unmarked`
abbrev pub mark_bit : Mark → ℕ
mark_bit Unmarked = 0
mark_bit Plain = 1
mark_bit (After register) = 1
