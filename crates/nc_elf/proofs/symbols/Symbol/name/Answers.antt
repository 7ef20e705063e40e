use Rattle.std.proofs.Common.{refl}
use Rattle.nc_elf.proofs.symbols.Symbol.name.Goals as goal

pub returns : goal.returns
returns c = refl
