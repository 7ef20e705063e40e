-- A chunk's life in a history: it is created, perhaps patched, deleted and freed, with a thread in it.
use Rattle.std.specs.Prelude.{◌≡◌, ℕ, List, [], ◌∷◌, ◌++◌, length, map, Contains, Some, None}
use Rattle.nc_vet.specs.Chunk.{MarkedChunk, Piece}
use Rattle.nc_text.specs.Machine.{State, state}
use Rattle.nc_text.specs.MarkedText.{unused_text}
use Rattle.nc_text.specs.Ready.{unmade_pages}
use Rattle.nc_gens.specs.Seen.{KeeperState}
use Rattle.nc_region.specs.schedules.World.{first_world, seat_at}
use Rattle.nc_region.specs.schedules.Events.{Event, Steps, Exits, Takes, Stores, Puts, Frees, Looks, world_after}
use Rattle.nc_region.specs.Region.{Region, IsCreated}
use Rattle.nc_region.specs.Patch.{AreBytesOf, IsPatched}
use Rattle.nc_region.specs.Deletion.{IsDeleted, IsReclaimed}
use Rattle.nc_histories.specs.Interleaving.{writers}
use Rattle.nc_histories.specs.Calls.{create_events, patch_events, delete_events}
use Rattle.nc_histories.specs.Histories.{Turn, IsHistory, happened, region_at_end}

-- a new region up to this limit, over this keeper: no page is made, and nothing is logged
abbrev pub first_region : ℕ → KeeperState → Region
first_region limit keeper =
    record { marked = unused_text limit; made = unmade_pages limit; chunks = []; keeper = keeper; logged = [] }

-- a byte is put by one of these events
abbrev pub PutsSome : List Event → Type 0
PutsSome events = (at byte : ℕ) × Contains events (Puts at byte)

-- after these events of a region with one seat, up to this limit, its thread is inside, in this state
abbrev pub ThreadIsIn : ℕ → List Event → State → Type 0
ThreadIsIn limit events now = (seat_at (world_after (first_world limit 1) events) 0).inside ≡ Some now

-- the state at the chunk's base with no register masked
abbrev pub start_of : MarkedChunk → State
start_of v = state v.base None

-- the last of these states, or `now` if there are none
abbrev pub last_of : State → List State → State
last_of now [] = now
last_of now (next ∷ rest) = last_of next rest

-- The turn creates the chunk in the new region. Between two puts of this creation the thread is at the chunk's base, and
-- from then on it does nothing in this turn.
pub record CreatesAround (v : MarkedChunk) (keeper : KeeperState) (turn : Turn) : Type 0 where
  pub created : IsCreated (first_region v.limit keeper) turn.region v
  pub own : writers turn.events ≡ create_events v
  pub earlier : List Event
  pub later : List Event
  pub parts : turn.events ≡ earlier ++ later
  pub put_before : PutsSome earlier
  pub put_after : PutsSome later
  pub inside : ThreadIsIn v.limit earlier (start_of v)
  pub waits : writers later ≡ later

-- the turn puts these bytes from this address on, as a patch, and the thread does nothing
pub record PatchesAt (old : Region) (at : ℕ) (bytes : List ℕ) (turn : Turn) : Type 0 where
  pub patched : IsPatched old turn.region at bytes
  pub news : List Piece
  pub bytes_are : AreBytesOf bytes news
  pub own : turn.events ≡ patch_events old.marked.bytes at news

-- A history of a region with one seat. Its first turn creates the chunk while the thread enters it. Then come the turns
-- `between`. Then the thread takes steps from the chunk's base along the path, and the chunk is deleted while the thread is in
-- the last state of the path. In the last turn the thread exits and checks in, and a reclaim looks at its seat and frees the
-- chunk's span. The region is then without a chunk, and its text is the unused one.
pub record IsLife (v : MarkedChunk) (keeper : KeeperState) (creation : Turn) (between : List Turn) (path : List State) : Type 0 where
  pub deletion : Turn
  pub reclaim : Turn
  pub history : IsHistory v.limit 1 [] (first_region v.limit keeper) (creation ∷ (between ++ deletion ∷ reclaim ∷ []))
  pub creates : CreatesAround v keeper creation
  pub deletes : IsDeleted (region_at_end creation.region between) deletion.region v.base 1
  pub goes : deletion.events
      ≡ map (Steps 0) path ++ delete_events (region_at_end creation.region between).marked.marks v.base (length v.code)
  pub stays : ThreadIsIn v.limit (happened [] (creation ∷ (between ++ deletion ∷ []))) (last_of (start_of v) path)
  pub checks_in : reclaim.events
      ≡ Exits 0 ∷ Takes 0 ∷ Stores 0 ∷ Looks 0 ∷ Frees (record { base = v.base; length = length v.code; stamp = 1 }) ∷ []
  pub frees : IsReclaimed deletion.region reclaim.region 1
  pub no_chunk : reclaim.region.chunks ≡ []
  pub unused : reclaim.region.marked ≡ unused_text v.limit
