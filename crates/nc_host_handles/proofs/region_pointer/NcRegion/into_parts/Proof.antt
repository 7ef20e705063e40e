-- The parts of the value of an `NcRegion`. Its pointer is tested.
use mathlib.Core.Path.{refl}
use Rattle.std.specs.Prelude.{◌≡◌, None, Some, MatchOption}
use Rattle.nc_host_handles.proofs.Pointers.{MaybeParts, meets, into_parts_runs}
use Rattle.nc_host_handles.proofs.region_handle.RegionHandle.TheLaws.{the_row_laws}
use Rattle.nc_host_handles.specs.contracts.region_handle.RegionHandle.{the_row}
use Rattle.nc_host_handles.specs.contracts.region_pointer.NcRegion as Own
use Rattle.nc_host_handles.specs.contracts.region_pointer.NcRegion.into_parts.Key.{name as #self}
use Rattle.nc_host_handles.proofs.region_pointer.NcRegion.into_parts.Statement as stated
use Rattle.nc_host_handles.proofs.region_pointer.NcRegion.into_parts.Code as code

pub into_parts_spec : {M : Type 1} → stated.statement M
into_parts_spec 𝓤 𝓛 𝓜 𝓡 wired =
    meets Own.the_row (MaybeParts the_row the_row_laws Own.struct.name) (λ h r. MatchOption r (h.value ≡ None) (λ parts. h.value ≡ Some parts.value)) (λ x. tt) (λ x f. refl)
    𝓤 𝓛 𝓜 𝓡 #self code.function (code.unfolded 𝓤 𝓛.H 𝓜 𝓡 wired)
    (λ 𝓣 h us Q k. into_parts_runs the_row the_row_laws Own.struct.name 𝓛 𝓣 us Q h.at h.alloc h.value (λ w. k None w) (λ parts w. k (Some parts) w))
