use Rattle.std.proofs.Common.{rules}
use Rattle.nc_elf.proofs.entries.SymbolEntry.is_defined.Goals as goal

pub returns-then-self-gt-SHN_UNDEF : goal.returns-then-self-gt-SHN_UNDEF
returns-then-self-gt-SHN_UNDEF c = search rules
