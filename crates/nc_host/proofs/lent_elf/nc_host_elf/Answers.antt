use Rattle.std.proofs.Common.{rules}
use Rattle.nc_host.proofs.lent_elf.nc_host_elf.Goals as goal

pub returns-in-Ok-clause-written : goal.returns-in-Ok-clause-written
returns-in-Ok-clause-written c = search rules
