-- Histories of a region: its calls one after the other, interleaved with events of threads between any two acts; and the
-- states in which threads may be.
use Rattle.std.specs.Prelude.{◌≡◌, ℕ, ◌≤◌, ⊤, List, [], ◌∷◌, ◌++◌, All, IfSome}
use Rattle.nc_decode.specs.Bundles.{IsLawfulLimit}
use Rattle.nc_vet.specs.Chunk.{MarkedChunk, Piece, IsValid}
use Rattle.nc_text.specs.Places.{limit_of}
use Rattle.nc_text.specs.Headline.{Stands}
use Rattle.nc_text.specs.MarkedText.{unused_text}
use Rattle.nc_gens.specs.Rule.{last_generation}
use Rattle.nc_gens.specs.Trail.{BeginsWith}
use Rattle.nc_gens.specs.Seen.{KeeperSteps, first_keeper, least_number}
use Rattle.nc_region.specs.schedules.World.{World, Seat, first_world, IsViewOf}
use Rattle.nc_region.specs.schedules.Events.{Event, Retires, world_after}
use Rattle.nc_acts.specs.declared.acts.Entry.{Entry}
use Rattle.nc_region.specs.declared.fault.CreateFault.{CreateFault}
use Rattle.nc_region.specs.declared.fault.ModifyFault.{ModifyFault}
use Rattle.nc_region.specs.declared.fault.DeleteFault.{DeleteFault}
use Rattle.nc_region.specs.Region.{Region, IsCreated, IsRefused, MayRefuse}
use Rattle.nc_region.specs.Deletion.{IsDeleted, MayRefuseDelete, IsReclaimed}
use Rattle.nc_region.specs.Patch.{IsPatch, IsPatched, MayRefusePatch, AreBytesOf}
use Rattle.nc_histories.specs.Interleaving.{writers, IsKeepers, IsNoLook, ThreadsMay}
use Rattle.nc_histories.specs.Steps.{word_steps}
use Rattle.nc_histories.specs.Calls.{Details, events_of_log, create_events, patch_events, delete_events, reclaim_events}

-- A refused creation, patch or deletion, as its contract describes it. It has no event, and its fault is one that the call
-- may return there. A patch or a deletion leaves an equal region; a creation may have made pages (`IsRefused`).
pub data IsRefusal (old new : Region) (own : List Event) : Type 0 where
  OfRefusedCreation : (v : MarkedChunk) (fault : CreateFault) → MayRefuse old v fault → IsRefused old new v fault → own ≡ []
      → IsRefusal old new own
  OfRefusedPatch : (at : ℕ) (bytes : List ℕ) (fault : ModifyFault) → MayRefusePatch old at bytes fault → new ≡ old → own ≡ []
      → IsRefusal old new own
  OfRefusedDeletion : (base : ℕ) (fault : DeleteFault) → MayRefuseDelete old base fault → new ≡ old → own ≡ [] → IsRefusal old new own

-- Attempts at these events: prefixes of them, one after the other, each possibly empty or whole.
pub data AreAttempts (events : List Event) : List Event → Type 0 where
  NoneYet : AreAttempts events []
  OneMore : {earlier : List Event} → AreAttempts events earlier → (part rest : List Event) → part ++ rest ≡ events
      → AreAttempts events (earlier ++ part)

-- A call of a region, as its contract describes it: the region that it leaves, and its own events. `Creates`, `Patches`,
-- `Deletes` and `Reclaims` are the accepted calls, with the events of their logs. Those of a creation, a patch or a deletion come after
-- any attempts at them; an attempt at a deletion ends before the stamp. `UsesKeeper` uses the keeper alone, which takes the steps that
-- the events are. `Refuses` is a refused call. `Keeps` is any other call without an event that leaves the region as it was, except that
-- pages may have been made. A call that only reads is one.
pub data IsCall (seats : ℕ) (old new : Region) (own : List Event) : Type 0 where
  Creates : (v : MarkedChunk) → IsValid v → v.limit ≡ limit_of old.marked.bytes → IsCreated old new v → (attempts : List Event)
      → AreAttempts (create_events v) attempts → own ≡ attempts ++ create_events v → IsCall seats old new own
  Patches : (at : ℕ) (bytes : List ℕ) (news : List Piece) → IsPatch old at bytes → AreBytesOf bytes news → IsPatched old new at bytes
      → (attempts : List Event) → AreAttempts (patch_events old.marked.bytes at news) attempts
      → own ≡ attempts ++ patch_events old.marked.bytes at news → IsCall seats old new own
  Deletes : (base stamp : ℕ) (is : IsDeleted old new base stamp) (stops attempts : List Event)
      → stops ++ Retires base is.chunk.length ∷ [] ≡ delete_events old.marked.marks base is.chunk.length → AreAttempts stops attempts
      → own ≡ attempts ++ delete_events old.marked.marks base is.chunk.length → IsCall seats old new own
  Reclaims : (count : ℕ) → IsReclaimed old new count
      → own ≡ reclaim_events seats (least_number new.keeper.numbers) old.chunks → IsCall seats old new own
  UsesKeeper : new.marked ≡ old.marked → new.chunks ≡ old.chunks → All IsKeepers own → KeeperSteps old.keeper new.keeper (word_steps own)
      → new.keeper.numbers.generation ≤ last_generation → IsCall seats old new own
  Refuses : IsRefusal old new own → IsCall seats old new own
  Keeps : new ≡ record old { made = new.made } → own ≡ [] → IsCall seats old new own

-- the entries logged between the old and the new region, read as events with these details, are one call of a history
abbrev pub LogsCall : ℕ → Details → Region → Region → Type 0
LogsCall seats details old new =
    (own : List Entry) × (new.logged ≡ old.logged ++ own) × IsCall seats old new (events_of_log details own)

-- nothing was logged between the old and the new region, which are those of a refused call
abbrev pub LogsRefusal : Region → Region → Type 0
LogsRefusal old new = (new.logged ≡ old.logged) × IsRefusal old new []

-- a call in a history: all events from the end of the previous call up to its own end, including those of threads, and the
-- region that it leaves
pub record Turn : Type 0 where
  pub events : List Event
  pub region : Region

-- After the events `before`, the writer's events of the turn are those of one call, and threads do only what they may. It is assumed
-- that when the call makes its last look, the steps on the table's words so far begin with the trail that the keeper has at its end.
-- So no stamp is drawn after a look of the same call.
pub record IsTurn (limit seats : ℕ) (before : List Event) (old : Region) (turn : Turn) : Type 0 where
  pub call : IsCall seats old turn.region (writers turn.events)
  pub threads : ThreadsMay (world_after (first_world limit seats) before) turn.events
  pub order : (made later : List Event) → turn.events ≡ made ++ later → ¬ All IsNoLook (writers made) → All IsNoLook (writers later)
      → BeginsWith (word_steps (before ++ made)) turn.region.keeper.trail

-- the turns are calls one after the other, from a region that the events `before` have led to
abbrev pub AreTurns : ℕ → ℕ → List Event → Region → List Turn → Type 0
AreTurns limit seats before r [] = ⊤
AreTurns limit seats before r (turn ∷ rest) =
    IsTurn limit seats before r turn × AreTurns limit seats (before ++ turn.events) turn.region rest

-- A history of a region: events of its keeper, which may have been used since it was new, and of threads; then the new region
-- over that keeper, with a lawful limit; then the region's calls.
pub record IsHistory (limit seats : ℕ) (first : List Event) (r : Region) (turns : List Turn) : Type 0 where
  pub lawful : IsLawfulLimit limit
  pub keepers : All IsKeepers (writers first)
  pub threads : ThreadsMay (first_world limit seats) first
  pub keeper : KeeperSteps (first_keeper r.keeper.table seats) r.keeper (word_steps (writers first))
  pub order : ¬ All IsNoLook (writers first) → BeginsWith (word_steps first) r.keeper.trail
  pub in_range : r.keeper.numbers.generation ≤ last_generation
  pub marked : r.marked ≡ unused_text limit
  pub chunks : r.chunks ≡ []
  pub turns_are : AreTurns limit seats first r turns

-- all events of a history
abbrev pub happened : List Event → List Turn → List Event
happened first [] = first
happened first (turn ∷ rest) = happened (first ++ turn.events) rest

-- the region that the last call of a history leaves
abbrev pub region_at_end : Region → List Turn → Region
region_at_end r [] = r
region_at_end r (turn ∷ rest) = region_at_end turn.region rest

-- each thread inside is, in every view, in a state that `Stands` of nc_text describes
abbrev pub AllStand : World → Type 0
AllStand w = All (λ (seat : Seat). IfSome seat.inside (λ now. (view : List ℕ) → IsViewOf w view → Stands view now)) w.seats
