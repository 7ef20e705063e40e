-- An `NcRegion` of the parts of its value. Two fields are moved.
use mathlib.Core.Path.{refl}
use Rattle.std.specs.Prelude.{◌≡◌, Some}
use Rattle.nc_host_handles.proofs.Pointers.{PartsOf, meets, of_parts_runs}
use Rattle.nc_host_handles.proofs.region_handle.RegionHandle.TheLaws.{the_row_laws}
use Rattle.nc_host_handles.specs.contracts.region_handle.RegionHandle.{the_row}
use Rattle.nc_host_handles.specs.contracts.region_pointer.NcRegion as Own
use Rattle.nc_host_handles.specs.contracts.region_pointer.NcRegion.of_parts.Key.{name as #self}
use Rattle.nc_host_handles.proofs.region_pointer.NcRegion.of_parts.Statement as stated
use Rattle.nc_host_handles.proofs.region_pointer.NcRegion.of_parts.Code as code

pub of_parts_spec : {M : Type 1} → stated.statement M
of_parts_spec 𝓤 𝓛 𝓜 𝓡 wired =
    meets (PartsOf the_row the_row_laws Own.struct.name) Own.the_row (λ parts h. h.value ≡ Some parts.value) (λ x. tt) (λ x f. refl)
    𝓤 𝓛 𝓜 𝓡 #self code.function (code.unfolded 𝓤 𝓛.H 𝓜 𝓡 wired)
    (λ 𝓣 parts us Q k. of_parts_runs the_row the_row_laws Own.struct.name 𝓛 𝓣 us Q (record { ptr = parts.ptr; alloc = parts.alloc; value = parts.value })
    (λ w. k (record { at = parts.ptr; alloc = parts.alloc; value = Some parts.value }) w refl))
