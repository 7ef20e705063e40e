use Rattle.std.proofs.Common.{rules}
use Rattle.nc_host_handles.proofs.region_handle.RegionHandle.check_begin.Goals as goal

pub returns-then-is_short-clause-allowed : goal.returns-then-is_short-clause-allowed
returns-then-is_short-clause-allowed c = tt

pub returns-then-is_short-clause-refused : goal.returns-then-is_short-clause-refused
returns-then-is_short-clause-refused c = search rules
