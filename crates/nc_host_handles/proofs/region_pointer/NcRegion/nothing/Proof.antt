-- An `NcRegion` without a value. Its pointer is null.
use mathlib.Core.Path.{refl}
use Rattle.std.specs.Prelude.{◌≡◌, None}
use Rattle.std_heap.specs.contracts.Global as Heap
use denote.RawPtr.{null_ptr}
use Rattle.nc_host_handles.proofs.Pointers.{meets, nothing_runs}
use Rattle.nc_host_handles.proofs.region_handle.RegionHandle.TheLaws.{the_row_laws}
use Rattle.nc_host_handles.specs.contracts.region_handle.RegionHandle.{the_row}
use Rattle.nc_host_handles.specs.contracts.region_pointer.NcRegion as Own
use Rattle.nc_host_handles.specs.contracts.region_pointer.NcRegion.nothing.Key.{name as #self}
use Rattle.nc_host_handles.proofs.region_pointer.NcRegion.nothing.Statement as stated
use Rattle.nc_host_handles.proofs.region_pointer.NcRegion.nothing.Code as code

pub nothing_spec : {M : Type 1} → stated.statement M
nothing_spec 𝓤 𝓛 𝓜 𝓡 wired =
    meets Heap.the_row Own.the_row (λ alloc h. h.value ≡ None) (λ x. tt) (λ x f. refl)
    𝓤 𝓛 𝓜 𝓡 #self code.function (code.unfolded 𝓤 𝓛.H 𝓜 𝓡 wired)
    (λ 𝓣 alloc us Q k. nothing_runs the_row the_row_laws Own.struct.name 𝓛 𝓣 us Q alloc (λ w. k (record { at = null_ptr; alloc = alloc; value = None }) w refl))
