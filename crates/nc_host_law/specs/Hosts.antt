-- A host in C, step by step: its memory, its calls by a handle of a region, and the threads that run that memory.
use Rattle.std.specs.Prelude.{◌≡◌, ℕ, ⊤, false, List, [], ◌∷◌, ◌++◌, All}
use Rattle.nc_decode.specs.Bundles.{limit_after}
use Rattle.nc_gens.specs.declared.view.WordStep.{WordStep}
use Rattle.nc_gens.specs.Trail.{BeginsWith}
use Rattle.nc_region.specs.schedules.World.{World, first_world}
use Rattle.nc_region.specs.schedules.Events.{Event, Puts, Serializes, Marks, ThreadMay, after}
use Rattle.nc_histories.specs.Interleaving.{is_writers, IsNoLook}
use Rattle.nc_histories.specs.Steps.{word_step}
use Rattle.nc_host_handles.specs.RegionHandle.{RegionHandleState, IsFirst}
use Rattle.nc_host_handles.specs.Pending.{IsHandleCall}

-- The library's state for the host's handle; the world of the host's memory, whose text is the bytes stored there; the steps so far on
-- the words of the table of check-ins; the pending events, in their order; and the announced events, all that were pending after the
-- last call that changes the region. Pending are the stores, serializations and markings that the host has to make, perhaps again, or
-- the library's own steps.
pub record Host : Type 0 where
  pub handle : RegionHandleState
  pub world : World
  pub steps : List WordStep
  pub pending : List Event
  pub announced : List Event

-- the host after an event
abbrev pub host_after : Host → Event → Host
host_after host event = record host { world = after host.world event; steps = host.steps ++ word_step event }

-- the event is one that the host makes: a store, a serialization, or a marking, which changes no memory
abbrev pub IsMadeByHost : Event → Type 0
IsMadeByHost (Puts at byte) = ⊤
IsMadeByHost Serializes = ⊤
IsMadeByHost (Marks at marks) = ⊤
IsMadeByHost event = ⊥

-- A step of a host with this number of seats. `Runs`: a thread does what it may. `Makes`: the first pending event happens.
-- `Restarts`: all announced events become pending again, if each is one that the host makes. `Calls`: while nothing is pending, the host
-- makes a call that changes the region, after which events are pending. `Asks`: any other call, also one that is refused, which leaves the
-- region as it is, except that pages may have been made.
pub data IsHostStep (seats : ℕ) (old new : Host) : Type 0 where
  Runs : (event : Event) → is_writers event ≡ false → ThreadMay old.world event
      → new ≡ host_after old event → IsHostStep seats old new
  Makes : (event : Event) → old.pending ≡ event ∷ new.pending
      → new ≡ record (host_after old event) { pending = new.pending } → IsHostStep seats old new
  Restarts : All IsMadeByHost old.announced → new ≡ record old { pending = old.announced } → IsHostStep seats old new
  Calls : old.pending ≡ [] → IsHandleCall seats old.handle new.handle new.pending
      → new ≡ record old { handle = new.handle; pending = new.pending; announced = new.pending } → IsHostStep seats old new
  Asks : new.handle.begun ≡ old.handle.begun → new.handle.region ≡ record old.handle.region { made = new.handle.region.made }
      → new ≡ record old { handle = new.handle } → IsHostStep seats old new

-- A step that makes the last look that was pending is in order if the steps on the table's words so far begin with the trail that the
-- keeper has once the call has ended. Every other step is in order.
abbrev pub IsInOrder : Host → Host → Type 0
IsInOrder old new = ¬ All IsNoLook old.pending → All IsNoLook new.pending → BeginsWith new.steps new.handle.region.keeper.trail

-- A state that a host can reach from a new region of a handle: nothing is pending, and its memory is a region's without any
-- chunk; then steps, each of which is in order.
pub data IsReached (bundles seats : ℕ) : Host → Type 0 where
  First : {host : Host} → IsFirst bundles seats host.handle → host.world ≡ first_world (limit_after bundles) seats
      → host.steps ≡ [] → host.pending ≡ [] → host.announced ≡ [] → IsReached bundles seats host
  Then : {old new : Host} → IsReached bundles seats old → IsHostStep seats old new → IsInOrder old new → IsReached bundles seats new
