use Rattle.std.proofs.Common.{◌≡◌, ◌≤◌, length}
use Rattle.nc_elf.specs.machinery.Pass.{first_loaded}
use Rattle.nc_elf.proofs.loaded.loaded_count.Given as goal

abbrev pub invariant-loop-number : goal.invariant-loop-number
invariant-loop-number l = record { counted : l.count ≡ length (first_loaded l.file l.number); few : l.count ≤ l.number }
