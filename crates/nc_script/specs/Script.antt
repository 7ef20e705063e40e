-- The state of a script: the region's limit, the list of its chunks, the generation, and the seats of its threads.
use Rattle.std.specs.Prelude.{◌≡◌, ℕ, ◌+◌, ◌-◌, ◌<◌, Bool, ◌&&◌, nat_le, nat_lt, if◌then◌else◌, List, [], ◌∷◌, ◌++◌, length, map}
use Rattle.std.specs.Prelude.{replicate, slice_index, All, Any}
use Rattle.std.specs.List.{range_with_len}

-- a live chunk has its bytes; a retired one was deleted, and waits for the seats to check in
pub data ScriptChunkState : Type 0 where
  Live : (bytes : List ℕ) → ScriptChunkState
  Retired : (length stamp : ℕ) → ScriptChunkState

-- a chunk of a script: its base and its state
pub record ScriptChunk : Type 0 where
  pub base : ℕ
  pub state : ScriptChunkState

-- A seat that stays, or one that has left, with its number: the generation at its last check-in, or 0 if it has never
-- checked in.
pub data ScriptSeat : Type 0 where
  Staying : (number : ℕ) → ScriptSeat
  Left : (number : ℕ) → ScriptSeat

-- The state that replies depend on. The chunks are in ascending order of their bases; `freed` is the number by which the last
-- reclaim freed chunks, initially 0.
pub record Script : Type 0 where
  pub limit : ℕ
  pub chunks : List ScriptChunk
  pub generation : ℕ
  pub seats : List ScriptSeat
  pub freed : ℕ

-- the bytes in a chunk's span
abbrev pub standing_bytes : ScriptChunkState → List ℕ
standing_bytes (Live bytes) = bytes
standing_bytes (Retired length stamp) = replicate length 0xF4

-- the address is in the chunk's span
abbrev pub covers : ScriptChunk → ℕ → Bool
covers c at = nat_le c.base at && nat_lt at (c.base + length (standing_bytes c.state))

-- the byte at an address: that of the chunk that covers it, or a stop if none does
abbrev pub byte_in : List ScriptChunk → ℕ → ℕ
byte_in [] at = 0xF4
byte_in (c ∷ chunks) at = if covers c at then slice_index (standing_bytes c.state) (at - c.base) else byte_in chunks at

-- the bytes of the region, from 00010000 to the limit
abbrev pub script_text : Script → List ℕ
script_text script = map (byte_in script.chunks) (range_with_len 0x10000 (script.limit - 0x10000))

-- the chunk, live or retired, overlaps the span
abbrev pub MeetsSpan : ℕ → ℕ → ScriptChunk → Type 0
MeetsSpan base len c = (base < c.base + length (standing_bytes c.state)) × (c.base < base + len)

-- some chunk, live or retired, overlaps the span
abbrev pub IsOccupied : ℕ → ℕ → List ScriptChunk → Type 0
IsOccupied base len chunks = Any (MeetsSpan base len) chunks

-- the chunk is put into the list, between the chunks with lower and those with higher bases
pub record IsPutBetween (chunk : ScriptChunk) (old new : List ScriptChunk) : Type 0 where
  pub before : List ScriptChunk
  pub after : List ScriptChunk
  pub old_is : old ≡ before ++ after
  pub new_is : new ≡ before ++ chunk ∷ after
  pub lower : All (λ c. c.base < chunk.base) before
  pub higher : All (λ c. chunk.base < c.base) after
