-- The events that a call by a handle leaves to be made, and how a host reads them in a buffer.
use Rattle.std.specs.Prelude.{◌≡◌, ℕ, ◌+◌, ◌-◌, ◌/◌, ◌%◌, ◌<◌, ◌==◌, ⊤, if◌then◌else◌, List, [], ◌∷◌, ◌++◌, All, length, take, drop, replicate, None}
use Rattle.std.specs.List.{flat_map}
use Rattle.nc_vet.specs.Chunk.{MarkedChunk}
use Rattle.nc_list.specs.declared.chunk.Chunk.{Chunk}
use Rattle.nc_region.specs.schedules.Events.{Event, Puts, Serializes, Marks, Retires, Frees, Looks}
use Rattle.nc_histories.specs.Calls.{delete_events}
use Rattle.nc_histories.specs.Histories.{IsCall}
use Rattle.nc_host_acts.specs.declared.act.NcAct.{NcAct}
use Rattle.nc_host_handles.specs.RegionHandle.{RegionHandleState, HasBegunDeletion, HasEndedDeletion}

-- the stores of these bytes, from this address on in ascending order, at the places whose bits are set; the lowest bit is
-- the first place's
abbrev pub puts_pending : ℕ → ℕ → List ℕ → List Event
puts_pending at bits [] = []
puts_pending at bits (byte ∷ rest) =
    if bits % 2 == 1 then Puts at byte ∷ puts_pending (at + 1) (bits / 2) rest else puts_pending (at + 1) (bits / 2) rest

-- The events that an element of a buffer is for a host, by its kind: 1 is a store, 2 the marking of this chunk, which changes
-- no memory, 6 a serialization, 7 stores of this chunk's bytes, and 8 stores of F4. An element of any other kind is no event. For
-- the stamp, kind 3, the host calls the library (`Ends` of `IsHandleCall`).
abbrev pub events_pending_by : MarkedChunk → NcAct → List Event
events_pending_by v a =
    if a.kind == 1 then Puts a.at a.value ∷ []
    else (if a.kind == 2 then Marks a.at v.marks ∷ []
    else (if a.kind == 6 then Serializes ∷ []
    else (if a.kind == 7 then puts_pending a.at a.value (take 32 (drop (a.at - v.base) v.code))
    else (if a.kind == 8 then puts_pending a.at a.value (replicate 32 0xF4)
    else []))))

-- the events that the elements of a buffer are, in their order
abbrev pub events_pending : MarkedChunk → List NcAct → List Event
events_pending v acts = flat_map (events_pending_by v) acts

-- all is as before, except that pages may have been made
abbrev pub ChangesPages : RegionHandleState → RegionHandleState → Type 0
ChangesPages old new = new ≡ record old { region = record old.region { made = new.region.made } }

-- An accepted call by a handle that changes the region: the library's state before and after it, and the events that are
-- pending then, which have to happen before the next such call. `Changes` is a call of a history (`IsCall` of nc_histories),
-- with its own events. `Begins` is the first call of a deletion, with its events up to the stamp; `Ends` is its last call,
-- with the stamp.
pub data IsHandleCall (seats : ℕ) (old new : RegionHandleState) (pending : List Event) : Type 0 where
  Changes : old.begun ≡ None → new.begun ≡ None → IsCall seats old.region new.region pending → IsHandleCall seats old new pending
  Begins : (c : Chunk) → HasBegunDeletion old new c.base c
      → pending ++ Retires c.base c.length ∷ [] ≡ delete_events old.region.marked.marks c.base c.length
      → IsHandleCall seats old new pending
  Ends : (stamp : ℕ) (is : HasEndedDeletion old new stamp) → pending ≡ Retires is.chunk.base is.chunk.length ∷ []
      → IsHandleCall seats old new pending

-- If a buffer was lent, its first `count` elements now are the events pending after the call, for a host that knows this chunk.
pub record ReportsPending (old new : RegionHandleState) (v : MarkedChunk) (lent now : List NcAct) (count : ℕ) : Type 0 where
  pub pending : (seats : ℕ) → 0 < length lent → IsHandleCall seats old new (events_pending v (take count now))

-- The event is a step of the library itself: it draws a stamp, frees a span or looks at a seat's word. Between two looks the
-- library may also check in for a seat that nobody was given, whose events are those of that seat.
abbrev pub IsLibrarys : Event → Type 0
IsLibrarys (Retires base len) = ⊤
IsLibrarys (Frees span) = ⊤
IsLibrarys (Looks k) = ⊤
IsLibrarys event = ⊥

-- The call is one after which only steps of the library are pending.
pub record DoesItself (seats : ℕ) (old new : RegionHandleState) : Type 0 where
  pub own : List Event
  pub librarys : All IsLibrarys own
  pub call : IsHandleCall seats old new own
