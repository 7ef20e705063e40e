-- The values of handles after the calls on them, and the numbers of the calls' refusals.
use Rattle.std.specs.Prelude.{◌≡◌, ℕ, ◌⊎◌, List, Option, Some, None}
use Rattle.nc_text.specs.Places.{limit_of}
use Rattle.nc_text.specs.Ready.{GetsReady}
use Rattle.nc_vet.specs.Chunk.{MarkedChunk, IsValid}
use Rattle.nc_region.specs.declared.fault.CreateFault.TheVariants.{WrongLimit, Occupied, OutOfMemory}
use Rattle.nc_region.specs.declared.fault.DeleteFault.TheVariants.{NoChunk, GensFull}
use Rattle.nc_host_handles.specs.declared.fault.NewFault.{NewFault}
use Rattle.nc_host_handles.specs.declared.fault.NewFault.TheVariants as new
use Rattle.nc_host_handles.specs.declared.fault.SeatFault.{SeatFault}
use Rattle.nc_host_handles.specs.declared.fault.SeatFault.TheVariants as seat
use Rattle.nc_host_handles.specs.declared.fault.LoadFault.{LoadFault}
use Rattle.nc_host_handles.specs.declared.fault.LoadFault.TheVariants as load
use Rattle.nc_host_handles.specs.declared.fault.PatchFault.{PatchFault}
use Rattle.nc_host_handles.specs.declared.fault.PatchFault.TheVariants as patch
use Rattle.nc_host_handles.specs.declared.fault.RetireFault.{RetireFault}
use Rattle.nc_host_handles.specs.declared.fault.RetireFault.TheVariants as retire
use Rattle.nc_host_handles.specs.declared.vetted_handle.VettedHandle.{VettedHandle}
use Rattle.nc_host_handles.specs.RegionHandle.{RegionHandleState}
use Rattle.nc_host_handles.specs.Pending.{ChangesPages}
use Rattle.nc_host.specs.declared.fault_numbers.TheConstants.{OUT_OF_MEMORY, NO_ROOM, NO_HANDLE, BAD_SEATS, BAD_SIZE, NO_SEAT, UNDER_WAY}
use Rattle.nc_host.specs.declared.fault_numbers.TheConstants.{WRONG_LIMIT, OCCUPIED, NO_CHUNK, FULL}
use Rattle.nc_host.specs.Shown.{refused_patch_number}

-- the handle had a value and has one, and the relation holds between the two
pub record IsDone {X : Type 0} (old new : Option X) (step : X → X → Type 0) : Type 0 where
  pub before : X
  pub after : X
  pub had : old ≡ Some before
  pub has : new ≡ Some after
  pub did : step before after

-- the fault is NO_HANDLE and the handle has nothing; or it is the number of a refusal that its value may get, with the
-- count that the refusal needs
abbrev pub IsNumberedRefusal : {X F : Type 0} → Option X → (X → F → Type 0) → (F → ℕ) → (F → ℕ) → (fault count : ℕ) → Type 0
IsNumberedRefusal {X} {F} handle may number wanted fault count =
    ((handle ≡ None) × (fault ≡ NO_HANDLE) × (count ≡ 0))
    ⊎ ((x : X) × (f : F) × (handle ≡ Some x) × may x f × (fault ≡ number f) × (count ≡ wanted f))

-- the number of a refused `new`
abbrev pub new_number : NewFault → ℕ
new_number new.BadSeats = BAD_SEATS
new_number new.BadSize = BAD_SIZE
new_number new.OutOfMemory = OUT_OF_MEMORY

-- the number of a refusal to give a seat
abbrev pub seat_number : SeatFault → ℕ
seat_number seat.NoneLeft = NO_SEAT
seat_number seat.OutOfMemory = OUT_OF_MEMORY

-- the number of a refused creation
abbrev pub load_number : LoadFault → ℕ
load_number load.Underway = UNDER_WAY
load_number (load.NoRoom wanted) = NO_ROOM
load_number (load.Refused WrongLimit) = WRONG_LIMIT
load_number (load.Refused Occupied) = OCCUPIED
load_number (load.Refused OutOfMemory) = OUT_OF_MEMORY

-- the number of acts of a creation that is refused for no room; otherwise 0
abbrev pub load_wanted : LoadFault → ℕ
load_wanted load.Underway = 0
load_wanted (load.NoRoom wanted) = wanted
load_wanted (load.Refused fault) = 0

-- the number of a refused patch
abbrev pub patch_number : PatchFault → ℕ
patch_number patch.Underway = UNDER_WAY
patch_number (patch.NoRoom wanted) = NO_ROOM
patch_number (patch.Refused fault) = refused_patch_number fault

-- the largest number of acts of a patch that is refused for no room; otherwise 0
abbrev pub patch_wanted : PatchFault → ℕ
patch_wanted patch.Underway = 0
patch_wanted (patch.NoRoom wanted) = wanted
patch_wanted (patch.Refused fault) = 0

-- the number of a deletion that doesn't begin
abbrev pub retire_number : RetireFault → ℕ
retire_number retire.Underway = UNDER_WAY
retire_number (retire.NoRoom wanted) = NO_ROOM
retire_number (retire.Refused NoChunk) = NO_CHUNK
retire_number (retire.Refused GensFull) = FULL

-- the number of acts of a deletion that is refused for no room; otherwise 0
abbrev pub retire_wanted : RetireFault → ℕ
retire_wanted retire.Underway = 0
retire_wanted (retire.NoRoom wanted) = wanted
retire_wanted (retire.Refused fault) = 0

-- a valid chunk of this code at this base, for this limit
abbrev pub IsVetted : (base limit : ℕ) → List ℕ → MarkedChunk → Type 0
IsVetted base limit code v = (v.base ≡ base) × (v.limit ≡ limit) × (v.code ≡ code) × IsValid v

-- the handle has a valid chunk of this code at this base for this limit
abbrev pub HoldsVetted : (base limit : ℕ) → List ℕ → Option VettedHandle → Type 0
HoldsVetted base limit code handle = (k : VettedHandle) × (handle ≡ Some k) × ((v : MarkedChunk) × (k.chunk ≡ Some v) × IsVetted base limit code v)

-- the chunk is valid, with this code at this base, for the region's limit
abbrev pub IsChunkFor : RegionHandleState → ℕ → List ℕ → MarkedChunk → Type 0
IsChunkFor h base code v = IsVetted base (limit_of h.region.marked.bytes) code v

-- all is as before, except that pages of the text that overlap this span may have been allocated (`GetsReady` of
-- nc_text)
abbrev pub IsSameButPages : (base len : ℕ) → RegionHandleState → RegionHandleState → Type 0
IsSameButPages base len old new = ChangesPages old new × GetsReady old.region.made new.region.made base len
