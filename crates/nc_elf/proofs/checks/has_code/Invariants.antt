use Rattle.std.proofs.Common.{ℕ, ◌<◌, IsTrue}
use Rattle.nc_elf.specs.Segments.{program_header, is_code}
use Rattle.nc_elf.proofs.checks.has_code.Given as goal

abbrev pub invariant-loop-number : goal.invariant-loop-number
invariant-loop-number l = (i : ℕ) → i < l.number → IsTrue (is_code (program_header l.file i)) → ⊥
