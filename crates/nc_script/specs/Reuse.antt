-- Deletion in a script, and when a deleted chunk's span may be used again.
use Rattle.std.specs.Prelude.{◌≡◌, ℕ, ◌≤◌, ◌^◌, Bool, false, not, nat_le, ◌==◌, ⊤, List, length, filter, All, Any, Some, slice_get}
use Rattle.std.specs.Prelude.{if◌then◌else◌}
use Rattle.nc_region.specs.declared.fault.DeleteFault.{DeleteFault}
use Rattle.nc_region.specs.declared.fault.DeleteFault.TheVariants.{NoChunk, GensFull}
use Rattle.nc_script.specs.Script.{Script, ScriptChunk, ScriptChunkState, Live, Retired, ScriptSeat, Staying, Left, standing_bytes}

-- threads may enter a chunk in this state
abbrev pub IsLiveState : ScriptChunkState → Type 0
IsLiveState (Live bytes) = ⊤
IsLiveState (Retired length stamp) = ⊥

-- some live chunk has this base
abbrev pub ListsLive : List ScriptChunk → ℕ → Type 0
ListsLive chunks base = Any (λ c. (c.base ≡ base) × IsLiveState c.state) chunks

-- the chunk at this base, retired with this stamp; any other chunk is unchanged
abbrev pub retired_at : ℕ → ℕ → ScriptChunk → ScriptChunk
retired_at base stamp c = if c.base == base then record c { state = Retired (length (standing_bytes c.state)) stamp } else c

-- the reason for each refusal of a deletion: no live chunk has this base, or the generation is the last one
abbrev pub IsRefusedDeletion : Script → ℕ → DeleteFault → Type 0
IsRefusedDeletion script base NoChunk = ¬ ListsLive script.chunks base
IsRefusedDeletion script base GensFull = ListsLive script.chunks base × (script.generation ≡ 2 ^ 62)

-- the number of a seat, whether or not it has left
abbrev pub number_of : ScriptSeat → ℕ
number_of (Staying number) = number
number_of (Left number) = number

-- the seat allows freeing by this number: its own number is at least that, or it has left
abbrev pub LetsFree : ℕ → ScriptSeat → Type 0
LetsFree a (Staying number) = a ≤ number
LetsFree a (Left number) = ⊤

-- The number by which a reclaim frees: at least that of the previous reclaim and the least number of all seats, and at most
-- the generation and the number of each seat that hasn't left.
pub record IsFreeingNumber (script : Script) (a : ℕ) : Type 0 where
  pub rises : script.freed ≤ a
  pub least : Any (λ seat. number_of seat ≤ a) script.seats
  pub current : a ≤ script.generation
  pub allowed : All (LetsFree a) script.seats

-- the state is retired, with a stamp of at most this number
abbrev pub is_freed_by : ℕ → ScriptChunkState → Bool
is_freed_by a (Live bytes) = false
is_freed_by a (Retired length stamp) = nat_le stamp a

-- the chunks that a reclaim by this number frees
abbrev pub freed_by : ℕ → List ScriptChunk → List ScriptChunk
freed_by a chunks = filter (λ c. is_freed_by a c.state) chunks

-- the chunks that a reclaim by this number keeps
abbrev pub kept_by : ℕ → List ScriptChunk → List ScriptChunk
kept_by a chunks = filter (λ c. not (is_freed_by a c.state)) chunks

-- there is such a seat, and it hasn't left
abbrev pub IsThere : List ScriptSeat → ℕ → Type 0
IsThere seats seat = (number : ℕ) × (slice_get seats seat ≡ Some (Staying number))

-- the seat hasn't left
abbrev pub Stays : ScriptSeat → Type 0
Stays (Staying number) = ⊤
Stays (Left number) = ⊥

-- no seat has left
abbrev pub AllStay : Script → Type 0
AllStay script = All Stays script.seats
