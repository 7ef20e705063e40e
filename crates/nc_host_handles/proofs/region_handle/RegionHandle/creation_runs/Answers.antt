use Rattle.std.proofs.Common.{rules}
use Rattle.nc_host_handles.proofs.region_handle.RegionHandle.creation_runs.Goals as goal

pub returns-clause-reported : goal.returns-clause-reported
returns-clause-reported c = search rules
