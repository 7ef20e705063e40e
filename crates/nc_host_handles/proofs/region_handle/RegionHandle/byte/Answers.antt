use Rattle.nc_host_handles.proofs.region_handle.RegionHandle.byte.Goals as goal

pub returns-clause-byte : goal.returns-clause-byte
returns-clause-byte c = rw (← c.self.view_is) c.byte.ensures
