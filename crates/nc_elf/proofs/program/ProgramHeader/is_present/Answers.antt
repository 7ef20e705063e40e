use Rattle.std.proofs.Common.{rules}
use Rattle.nc_elf.proofs.program.ProgramHeader.is_present.Goals as goal

pub returns-then-is_load : goal.returns-then-is_load
returns-then-is_load c = search rules
