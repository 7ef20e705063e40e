use Rattle.nc_host_handles.proofs.region_handle.RegionHandle.check_load.Goals as goal

pub returns-then-is_some-clause-allowed : goal.returns-then-is_some-clause-allowed
returns-then-is_some-clause-allowed c = tt
