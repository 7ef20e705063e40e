use Rattle.std.proofs.Common.{◌≡◌, ◌++◌, length, drop}
use Rattle.nc_elf.specs.machinery.Pass.{first_loaded}
use Rattle.nc_elf.proofs.loaded.write_loaded.Given as goal

abbrev pub invariant-loop-number : goal.invariant-loop-number
invariant-loop-number l = record {
  counted : l.count ≡ length (first_loaded l.file l.number);
  written : l.room ≡ first_loaded l.file l.number ++ drop (length (first_loaded l.file l.number)) l.initial.room;
}
