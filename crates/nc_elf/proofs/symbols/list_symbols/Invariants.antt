use Rattle.std.proofs.Common.{◌≡◌, All}
use Rattle.nc_elf.specs.Symbols.{IsNamed}
use Rattle.nc_elf.specs.machinery.Pass.{first_symbols}
use Rattle.nc_elf.proofs.symbols.list_symbols.Given as goal

abbrev pub invariant-loop-number : goal.invariant-loop-number
invariant-loop-number l =
    record {
      listed : l.symbols.items ≡ first_symbols l.file l.sections l.number;
      named : All (IsNamed l.file) l.symbols.items;
    }
