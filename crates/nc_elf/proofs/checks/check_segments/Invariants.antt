use Rattle.nc_elf.specs.Segments.{AreGood}
use Rattle.nc_elf.specs.machinery.Pass.{IsFloor}
use Rattle.nc_elf.proofs.checks.check_segments.Given as goal

abbrev pub invariant-loop-number : goal.invariant-loop-number
invariant-loop-number l = record { good : AreGood l.file l.number; floor : IsFloor l.file l.number l.floor }
