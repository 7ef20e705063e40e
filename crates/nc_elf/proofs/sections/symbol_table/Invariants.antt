use Rattle.std.proofs.Common.{◌≡◌, ℕ, ◌<◌, false}
use Rattle.nc_elf.specs.Sections.{section_header, is_symbol_table}
use Rattle.nc_elf.proofs.sections.symbol_table.Given as goal

abbrev pub invariant-loop-number : goal.invariant-loop-number
invariant-loop-number l = (i : ℕ) → i < l.number → is_symbol_table (section_header l.file i) ≡ false
