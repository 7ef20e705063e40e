use Rattle.std.proofs.Common.{refl}
use Rattle.nc_host.proofs.lent_elf.elf_header.Goals as goal

pub returns-in-BadSegment : goal.returns-in-BadSegment
returns-in-BadSegment c = rw (c.in-BadSegment.is) refl
