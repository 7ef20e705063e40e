use Rattle.std.proofs.Common.{rules, refl}
use Rattle.nc_host_handles.proofs.region_handle.RegionHandle.new.Goals as goal

pub returns-then-not-is_region_size-clause-bad_size : goal.returns-then-not-is_region_size-clause-bad_size
returns-then-not-is_region_size-clause-bad_size c = (λ e. ((search rules, search rules), λ lawful. search rules), λ h. refl)

pub returns-then-not-is_region_size-clause-refused : goal.returns-then-not-is_region_size-clause-refused
returns-then-not-is_region_size-clause-refused c = ((search rules, search rules), λ lawful. search rules)
