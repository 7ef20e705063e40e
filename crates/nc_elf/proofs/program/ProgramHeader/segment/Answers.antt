use Rattle.std.proofs.Common.{refl}
use Rattle.nc_elf.proofs.program.ProgramHeader.segment.Goals as goal

pub returns : goal.returns
returns c = refl
