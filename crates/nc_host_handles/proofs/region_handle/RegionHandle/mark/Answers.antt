use Rattle.nc_host_handles.proofs.region_handle.RegionHandle.mark.Goals as goal

pub returns-clause-mark : goal.returns-clause-mark
returns-clause-mark c = rw (← c.self.view_is) c.mark.ensures
