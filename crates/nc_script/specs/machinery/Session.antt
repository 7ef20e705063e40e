-- Machinery of the proofs, cited by no public contract: the states of a script that a session represents. The number by which
-- the last reclaim freed isn't stored, so there may be several.
use Rattle.std.specs.Prelude.{◌≡◌, ℕ, ◌-◌, ◌<◌, ◌≤◌, ◌^◌, ⊤, Bool, List, map, take, drop, length, slice_get, slice_index, slice_index_or}
use Rattle.std.specs.Prelude.{Option, Some, None}
use Rattle.nc_gens.specs.Seen.{PassState}
use Rattle.nc_list.specs.declared.chunk.Chunk.{Chunk}
use Rattle.nc_list.specs.declared.chunk.ChunkState.{ChunkState}
use Rattle.nc_list.specs.declared.chunk.ChunkState.TheVariants as chunk
use Rattle.nc_base.specs.Each.{Each}
use Rattle.atomic_table.specs.Seated.{TableId}
use Rattle.nc_text.specs.Places.{limit_of}
use Rattle.nc_region.specs.Region.{Region}
use Rattle.nc_script.specs.Script.{Script, ScriptChunk, ScriptChunkState, Live, Retired, ScriptSeat, Staying, Left}
use Rattle.nc_script.specs.Requests.{Request}
use Rattle.nc_script.specs.Serving.{Serves, IsOnlyReply}

-- the bytes of a span of the region
abbrev pub bytes_at : List ℕ → ℕ → ℕ → List ℕ
bytes_at bytes base length = take length (drop (base - 0x10000) bytes)

-- the state of a chunk with this span
abbrev pub state_in : List ℕ → ℕ → ℕ → ChunkState → ScriptChunkState
state_in bytes base length chunk.Live = Live (bytes_at bytes base length)
state_in bytes base length (chunk.Retired stamp) = Retired length stamp

-- a chunk of the region, as a chunk of the script
abbrev pub script_chunk : List ℕ → Chunk → ScriptChunk
script_chunk bytes c = record { base = c.base; state = state_in bytes c.base c.length c.state }

-- the script's state, given a region, its seats, and the number by which the last reclaim freed
abbrev pub script_of : Region → List ScriptSeat → ℕ → Script
script_of region seats freed = record {
  limit = limit_of region.marked.bytes;
  chunks = map (script_chunk region.marked.bytes) region.chunks;
  generation = region.keeper.numbers.generation;
  seats = seats;
  freed = freed;
}

-- the seats of a session, as contracts see them: the passes of those that haven't left, and the table of these passes
pub record SeatsState : Type 0 where
  pub table : TableId
  pub passes : List (Option PassState)

-- a session, as contracts see it
pub record SessionState : Type 0 where
  pub region : Region
  pub seats : SeatsState

-- each pass belongs to this table, and to the seat whose number is the pass's index
abbrev pub AreSeated : TableId → List (Option PassState) → Type 0
AreSeated table passes = (i : ℕ) (p : PassState) → slice_get passes i ≡ Some (Some p) → (p.table ≡ table) × (p.seat ≡ i)

-- A seat of the script fits its pass, if it hasn't left, and the keeper's bound for it: the pass's own word is the seat's
-- number, and so is the bound; for a seat that has left, the bound is at least its number. Each bound is at least the number
-- by which the last reclaim freed.
abbrev pub SeatFits : (generation freed : ℕ) → Option PassState → ℕ → ScriptSeat → Type 0
SeatFits generation freed (Some p) bound (Staying n) = (p.numbers.word ≡ n) × (bound ≡ n) × (n ≤ generation) × (freed ≤ n)
SeatFits generation freed None bound (Left n) = (n ≤ bound) × (n ≤ generation) × (freed ≤ bound)
SeatFits generation freed _ bound _ = ⊥

-- the passes and the keeper's bounds fit the script's seats, of which there is at least one
pub record SeatsFit (generation freed : ℕ) (passes : List (Option PassState)) (bounds : List ℕ) (seats : List ScriptSeat) : Type 0 where
  pub some : 0 < length seats
  pub passes_long : length passes ≡ length seats
  pub bounds_long : length bounds ≡ length seats
  pub each : (i : ℕ) → i < length seats
      → SeatFits generation freed (slice_index_or passes i None) (slice_index bounds i) (slice_index_or seats i (Left 0))

-- a stamp isn't above the generation
abbrev pub IsStamped : ℕ → ChunkState → Type 0
IsStamped generation chunk.Live = ⊤
IsStamped generation (chunk.Retired stamp) = stamp ≤ generation

-- the seats and the number fit the session: with its region they are a state that it represents
pub record FitsSession (session : SessionState) (seats : List ScriptSeat) (freed : ℕ) : Type 0 where
  pub in_range : session.region.keeper.numbers.generation ≤ 2 ^ 62
  pub current : freed ≤ session.region.keeper.numbers.generation
  pub stamps : Each (λ (c : Chunk). IsStamped session.region.keeper.numbers.generation c.state) session.region.chunks
  pub seats_fit : SeatsFit session.region.keeper.numbers.generation freed session.seats.passes session.region.keeper.numbers.bounds seats

-- whatever state the session represented, this is a reply to the request, and leads to a state that it represents now
abbrev pub Follows : Request → SessionState → List ℕ → SessionState → Type 0
Follows request old reply new = (seats : List ScriptSeat) (freed : ℕ) → FitsSession old seats freed
    → (next : List ScriptSeat) × (number : ℕ) × Serves request (script_of old.region seats freed) reply (script_of new.region next number)
    × FitsSession new next number

-- a session that takes queries or doesn't
pub record SessionOf : Type 0 where
  pub queries : Bool
  pub state : SessionState

-- whatever state the session represented, this is a reply to the line, and leads to a state that it represents now
abbrev pub FollowsLine : SessionOf → List ℕ → List ℕ → SessionOf → Type 0
FollowsLine old line reply new =
    (new.queries ≡ old.queries) × ((seats : List ScriptSeat) (freed : ℕ) → FitsSession old.state seats freed
    → (next : List ScriptSeat) × (number : ℕ)
    × IsOnlyReply old.queries (script_of old.state.region seats freed) line reply (script_of new.state.region next number)
    × FitsSession new.state next number)

-- whatever state the region and any seats represented, this is a reply to the request, and leads to a state that they represent now
abbrev pub FollowsIn : Request → Region → List ℕ → Region → Type 0
FollowsIn request old reply new = (seats : SeatsState)
    → Follows request (record { region = old; seats = seats }) reply (record { region = new; seats = seats })
