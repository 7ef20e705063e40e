use Rattle.nc_host_handles.proofs.region_handle.RegionHandle.chunk.Goals as goal

pub returns : goal.returns
returns c = rw (← c.self.view_is) c.chunk.ensures
