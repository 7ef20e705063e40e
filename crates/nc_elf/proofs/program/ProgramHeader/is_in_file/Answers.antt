use Rattle.std.proofs.Common.{rules}
use Rattle.nc_elf.proofs.program.ProgramHeader.is_in_file.Goals as goal

pub returns : goal.returns
returns c = search rules
