-- The contracts' view of a region that owns everything it needs, and when its calls are refused.
use Rattle.std.specs.Prelude.{◌≡◌, ◌≢◌, ℕ, ◌+◌, ◌*◌, ◌^◌, ◌<◌, ◌≤◌, List, [], ◌∷◌, ◌++◌, Option, Some, None, Contains, IfSome, IsSome, All, length, map, slice_index}
use Rattle.nc_decode.specs.Bundles.{IsLawfulLimit, limit_after}
use Rattle.nc_gens.specs.declared.view.WordStep.{WordStep}
use Rattle.nc_gens.specs.Trail.{seat_word}
use Rattle.nc_gens.specs.Progress.{IsBeforeLook}
use Rattle.nc_gens.specs.Seen.{AreSeats, PassState, Raised, first_keeper, new_passes}
use Rattle.nc_text.specs.MarkedText.{unused_text}
use Rattle.nc_text.specs.Ready.{unmade_pages}
use Rattle.nc_vet.specs.Chunk.{MarkedChunk}
use Rattle.nc_list.specs.declared.chunk.Chunk.{Chunk}
use Rattle.nc_list.specs.declared.chunk.ChunkState.TheVariants.{Live}
use Rattle.nc_text.specs.Places.{limit_of}
use Rattle.nc_region.specs.Region.{Region, IsCreated, IsRefused, MayRefuse, Meets}
use Rattle.nc_region.specs.Deletion.{IsDeleted, MayRefuseDelete, IsReclaimed, AreFreedUpTo}
use Rattle.nc_region.specs.Patch.{IsPatched, IsPatch, MayRefusePatch}
use Rattle.nc_region.specs.Quiet.{retired_spans}
use Rattle.nc_region.specs.schedules.Events.{Event, Looks}
use Rattle.nc_histories.specs.Calls.{no_details}
use Rattle.nc_histories.specs.Histories.{IsCall, LogsCall}
use Rattle.nc_host_handles.specs.declared.fault.NewFault.{NewFault}
use Rattle.nc_host_handles.specs.declared.fault.NewFault.TheVariants.{BadSeats, BadSize, OutOfMemory}
use Rattle.nc_host_handles.specs.declared.fault.SeatFault.{SeatFault}
use Rattle.nc_host_handles.specs.declared.fault.SeatFault.TheVariants as seat
use Rattle.nc_host_handles.specs.declared.fault.LoadFault.{LoadFault}
use Rattle.nc_host_handles.specs.declared.fault.LoadFault.TheVariants as load
use Rattle.nc_host_handles.specs.declared.fault.PatchFault.{PatchFault}
use Rattle.nc_host_handles.specs.declared.fault.PatchFault.TheVariants as patch
use Rattle.nc_host_handles.specs.declared.fault.RetireFault.{RetireFault}
use Rattle.nc_host_handles.specs.declared.fault.RetireFault.TheVariants as retire

-- the contracts' view of a `RegionHandle`: its region, the passes not given out yet, and the chunk whose deletion is under way,
-- if any
pub record RegionHandleState : Type 0 where
  pub region : Region
  pub passes : List PassState
  pub begun : Option Chunk

-- the chunk is a live chunk of the list, with this base
abbrev pub IsLiveAt : List Chunk → ℕ → Chunk → Type 0
IsLiveAt chunks base c = Contains chunks c × (c.state ≡ Live) × (c.base ≡ base)

-- the chunk whose deletion is under way is live, and a stamp is left for it
abbrev pub CanEnd : Option Chunk → Region → Type 0
CanEnd begun r = IfSome begun (λ c. IsLiveAt r.chunks c.base c × (r.keeper.numbers.generation < 2 ^ 62))

-- a new region of a lawful size with 1 to 256 seats: only F4, no page allocated, no chunk, no stamp drawn, nothing
-- logged, no pass given out
pub record IsFirst (bundles seats : ℕ) (h : RegionHandleState) : Type 0 where
  pub numbers : AreSeats seats
  pub lawful : IsLawfulLimit (limit_after bundles)
  pub marked : h.region.marked ≡ unused_text (limit_after bundles)
  pub made : h.region.made ≡ unmade_pages (limit_after bundles)
  pub chunks : h.region.chunks ≡ []
  pub keeper : h.region.keeper ≡ first_keeper h.region.keeper.table seats
  pub logged : h.region.logged ≡ []
  pub passes : h.passes ≡ new_passes h.region.keeper.table seats
  pub begun : h.begun ≡ None

-- when `new` returns each refusal: the number of seats isn't 1 to 256; it is, and the size isn't lawful; both are
-- lawful, and memory ran out
abbrev pub MayRefuseNew : ℕ → ℕ → NewFault → Type 0
MayRefuseNew bundles seats BadSeats = ¬ AreSeats seats
MayRefuseNew bundles seats BadSize = AreSeats seats × ¬ IsLawfulLimit (limit_after bundles)
MayRefuseNew bundles seats OutOfMemory = AreSeats seats × IsLawfulLimit (limit_after bundles)

-- when `seat` returns each refusal: no seat is left; or one is, and memory ran out
abbrev pub MayRefuseSeat : RegionHandleState → SeatFault → Type 0
MayRefuseSeat h seat.NoneLeft = h.passes ≡ []
MayRefuseSeat h seat.OutOfMemory = ¬ (h.passes ≡ [])

-- a buffer is lent, and it has less room than this
abbrev pub IsShort : ℕ → ℕ → Type 0
IsShort room wanted = (0 < room) × (room < wanted)

-- the buffer for a patch of at most 32 bytes has room for fewer than three acts for each new byte, even if none is lent
abbrev pub IsShortForPatch : ℕ → ℕ → Type 0
IsShortForPatch room len = (len ≤ 32) × (room < 3 * len)

-- when `create` returns each refusal: a deletion is under way; or else a lent buffer has room for fewer acts than the
-- chunk has bytes plus two; or else the region refuses (`MayRefuse` of nc_region)
abbrev pub MayRefuseLoad : RegionHandleState → MarkedChunk → ℕ → LoadFault → Type 0
MayRefuseLoad h v room load.Underway = IsSome h.begun
MayRefuseLoad h v room (load.NoRoom wanted) = (h.begun ≡ None) × IsShort room (length v.code + 2) × (wanted ≡ length v.code + 2)
MayRefuseLoad h v room (load.Refused fault) = (h.begun ≡ None) × (¬ IsShort room (length v.code + 2)) × MayRefuse h.region v fault

-- the state after a refused creation: all is as before, except that if the region was refused memory, pages of the span
-- may have been allocated
abbrev pub IsNotLoaded : RegionHandleState → RegionHandleState → MarkedChunk → LoadFault → Type 0
IsNotLoaded old new v load.Underway = new ≡ old
IsNotLoaded old new v (load.NoRoom wanted) = new ≡ old
IsNotLoaded old new v (load.Refused fault) = (new ≡ record old { region = new.region }) × IsRefused old.region new.region v fault

-- when `patch` returns each refusal: a deletion is under way; or else the buffer for at most 32 new bytes has room for
-- fewer than three acts for each; or else the region refuses (`MayRefusePatch` of nc_region)
abbrev pub MayRefuseHandlePatch : RegionHandleState → ℕ → List ℕ → ℕ → PatchFault → Type 0
MayRefuseHandlePatch h at new room patch.Underway = IsSome h.begun
MayRefuseHandlePatch h at new room (patch.NoRoom wanted) =
    (h.begun ≡ None) × IsShortForPatch room (length new) × (wanted ≡ 3 * length new)
MayRefuseHandlePatch h at new room (patch.Refused fault) =
    (h.begun ≡ None) × (¬ IsShortForPatch room (length new)) × MayRefusePatch h.region at new fault

-- when `begin_delete` returns each refusal: a deletion is under way; or else the region refuses (`MayRefuseDelete` of
-- nc_region); or else a lent buffer has room for fewer acts than the live chunk has bytes plus two
abbrev pub MayRefuseBegin : RegionHandleState → ℕ → ℕ → RetireFault → Type 0
MayRefuseBegin h base room retire.Underway = IsSome h.begun
MayRefuseBegin h base room (retire.Refused fault) = (h.begun ≡ None) × MayRefuseDelete h.region base fault
MayRefuseBegin h base room (retire.NoRoom wanted) =
    (h.begun ≡ None) × (h.region.keeper.numbers.generation < 2 ^ 62)
    × ((c : Chunk) × IsLiveAt h.region.chunks base c × IsShort room (c.length + 2) × (wanted ≡ c.length + 2))

-- The deletion of this live chunk with this base is under way, none was before, and a stamp is left for it. All else is
-- as before.
pub record HasBegunDeletion (old new : RegionHandleState) (base : ℕ) (c : Chunk) : Type 0 where
  pub live : IsLiveAt old.region.chunks base c
  pub room : old.region.keeper.numbers.generation < 2 ^ 62
  pub none : old.begun ≡ None
  pub others : new ≡ record old { begun = Some c }

-- The chunk whose deletion was under way is the one that is deleted, with this stamp (`IsDeleted` of nc_region), and none
-- is under way. All acts of the deletion are logged now, as a call of a history (`LogsCall` of nc_histories). All else is as
-- before.
pub record HasEndedDeletion (old new : RegionHandleState) (stamp : ℕ) : Type 0 where
  pub chunk : Chunk
  pub begun : old.begun ≡ Some chunk
  pub deleted : IsDeleted old.region new.region chunk.base stamp
  pub same : deleted.chunk ≡ chunk
  pub call : (seats : ℕ) → LogsCall seats (record no_details { base = chunk.base; len = chunk.length }) old.region new.region
  pub others : new ≡ record old { region = new.region; begun = None }

-- the last of the passes not given out yet has been given out; all else is as before
pub record HasGiven (old new : RegionHandleState) (pass : PassState) : Type 0 where
  pub passes : old.passes ≡ new.passes ++ pass ∷ []
  pub others : new ≡ record old { passes = new.passes }

-- the keeper has a bound for the pass's seat number, and it is at least this number
abbrev pub IsIn : Region → ℕ → PassState → Type 0
IsIn r number p = (p.seat < length r.keeper.numbers.bounds) × (number ≤ slice_index r.keeper.numbers.bounds p.seat)

-- the keeper meets each of these passes before and after it checks in, which are two looks at its seat
abbrev pub meetings : List PassState → List Event
meetings [] = []
meetings (p ∷ rest) = Looks p.seat ∷ Looks p.seat ∷ meetings rest

-- where this trail ends, each seat but those of these passes has checked in since the stamp or has left (as in `HavePassed` of
-- nc_gens)
abbrev pub HaveOthersPassed : List PassState → ℕ → ℕ → List WordStep → Type 0
HaveOthersPassed passes seats stamp known =
    (k : ℕ) → k < seats → All (λ (p : PassState). p.seat ≢ k) passes → stamp ≤ seat_word seats known k

-- The progress of a reclaim. For each stamp drawn so far: if at some moment before the look each seat that was given out had checked in
-- since the stamp or had left, then no chunk with a stamp of at most that one is in the list. No other seat delays that.
abbrev pub HasFreedPassed : RegionHandleState → Region → Type 0
HasFreedPassed old new = (stamp : ℕ) (known : List WordStep) → stamp ≤ old.region.keeper.numbers.generation
    → IsBeforeLook (length new.keeper.numbers.bounds) known new.keeper.trail
    → HaveOthersPassed old.passes (length new.keeper.numbers.bounds) stamp known → AreFreedUpTo stamp new.chunks

-- No deletion was under way. The keeper met the passes not given out, by which its bounds may have risen. If there were
-- none, it met nobody, and the region is as it was. Then this many retired chunks were reclaimed (`IsReclaimed` of
-- nc_region), among them each whose stamp the seats that were given out had passed (`HasFreedPassed`). These are two calls of a
-- history (`IsCall` and `LogsCall` of nc_histories); the first one logs nothing. The passes not given out keep their seat numbers, and
-- the keeper's bounds for these are at least the generation. All else is as before.
pub record HasReclaimed (old new : RegionHandleState) (count : ℕ) : Type 0 where
  pub none : old.begun ≡ None
  pub met : Region
  pub keeper : met ≡ record old.region { keeper = met.keeper }
  pub generation : met.keeper.numbers.generation ≡ old.region.keeper.numbers.generation
  pub raised : Raised old.region.keeper.numbers.bounds met.keeper.numbers.bounds
  pub unmet : old.passes ≡ [] → met ≡ old.region
  pub meets : (seats : ℕ) → IsCall seats old.region met (meetings old.passes)
  pub reclaimed : IsReclaimed met new.region count
  pub progress : HasFreedPassed old new.region
  pub call : (seats : ℕ)
      → LogsCall seats (record no_details { seats = seats; spans = retired_spans met.chunks }) met new.region
  pub outside : All (IsIn new.region old.region.keeper.numbers.generation) new.passes
  pub seats : map (λ (p : PassState). p.seat) new.passes ≡ map (λ (p : PassState). p.seat) old.passes
  pub others : new ≡ record old { region = new.region; passes = new.passes }

-- no deletion was under way, the chunk was vetted for the region's limit, no chunk overlapped its span, it was created
-- in the region (`IsCreated`), all else is as before, and the entries logged are a call of a history (`LogsCall` of
-- nc_histories)
abbrev pub HasLoaded : MarkedChunk → RegionHandleState → RegionHandleState → Type 0
HasLoaded v old new =
    (old.begun ≡ None) × (v.limit ≡ limit_of old.region.marked.bytes) × (¬ Meets v.base (length v.code) old.region.chunks)
    × IsCreated old.region new.region v × (new ≡ record old { region = new.region })
    × ((seats : ℕ) → LogsCall seats (record no_details { marks = v.marks }) old.region new.region)

-- no deletion was under way, a lawful patch (`IsPatch`) was made in the region (`IsPatched`), all else is as before,
-- and the entries logged are a call of a history (`LogsCall` of nc_histories)
abbrev pub HasPatched : ℕ → List ℕ → RegionHandleState → RegionHandleState → Type 0
HasPatched at bytes old new =
    (old.begun ≡ None) × IsPatch old.region at bytes × IsPatched old.region new.region at bytes × (new ≡ record old { region = new.region })
    × ((seats : ℕ) → LogsCall seats no_details old.region new.region)
