use Rattle.std.proofs.Common.{◌≡◌, ℕ, ◌<◌, true, slice_index}
use Rattle.nc_elf.specs.Symbols.{is_name_byte}
use Rattle.nc_elf.proofs.entries.name_len.Given as goal

abbrev pub invariant-loop-len : goal.invariant-loop-len
invariant-loop-len l = (k : ℕ) → k < l.len → is_name_byte (slice_index l.field k) ≡ true
