use Rattle.std.proofs.Common.{rules}
use Rattle.nc_host_handles.proofs.region_calls.bytes_before.Goals as goal

pub returns-then-len-gt32-clause-all : goal.returns-then-len-gt32-clause-all
returns-then-len-gt32-clause-all c = search rules
