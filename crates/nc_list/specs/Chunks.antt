-- Chunks by ascending base: the chunk of a place, the chunks that are due, and the list that each call leaves.
use Rattle.std.specs.Prelude.{◌≡◌, ℕ, ◌+◌, ◌<◌, ◌≤◌, ◌⊎◌, ⊤, Bool, false, not, nat_le, List, [], ◌∷◌, ◌++◌, length, take, drop, filter, Contains}
use Rattle.std.specs.List.{insert}
use Rattle.nc_list.specs.declared.chunk.Chunk.{Chunk}
use Rattle.nc_list.specs.declared.chunk.ChunkState.{ChunkState}
use Rattle.nc_list.specs.declared.chunk.ChunkState.TheVariants.{Live, Retired}
use Rattle.nc_base.specs.Each.{Each}

-- the chunks begin at or above this place, in ascending order and without overlap
abbrev pub IsAscending : ℕ → List Chunk → Type 0
IsAscending from [] = ⊤
IsAscending from (c ∷ rest) = (from ≤ c.base) × IsAscending (c.base + c.length) rest

-- all chunks of the list end at or below the place
abbrev pub IsAboveAll : ℕ → List Chunk → Type 0
IsAboveAll base chunks = Each (λ (d : Chunk). d.base + d.length ≤ base) chunks

-- all chunks of the list begin at or above the place
abbrev pub IsBelowAll : ℕ → List Chunk → Type 0
IsBelowAll end chunks = Each (λ (d : Chunk). end ≤ d.base) chunks

-- a chunk with this span can be inserted at index `k`: the list stays ascending and without overlap
abbrev pub FitsAt : ℕ → ℕ → List Chunk → ℕ → Type 0
FitsAt base len chunks k = (k ≤ length chunks) × IsAboveAll base (take k chunks) × IsBelowAll (base + len) (drop k chunks)

-- some chunk of the list overlaps the span
abbrev pub Meets : ℕ → ℕ → List Chunk → Type 0
Meets base len [] = ⊥
Meets base len (d ∷ rest) = ((base < d.base + d.length) × (d.base < base + len)) ⊎ Meets base len rest

-- a live chunk with this span
abbrev pub live : ℕ → ℕ → Chunk
live base len = record { base = base; length = len; state = Live }

-- the new list is the old one with the chunk inserted where it fits
abbrev pub IsInserted : List Chunk → List Chunk → Chunk → Type 0
IsInserted old new c = (k : ℕ) × FitsAt c.base c.length old k × (new ≡ insert old k c)

-- The first chunk of an ascending list that ends above the place: the one in which the place lies, or else the first one
-- above it. All before it in the list end at or below the place.
pub record IsNextChunk (chunks : List Chunk) (at : ℕ) (c : Chunk) : Type 0 where
  pub before : List Chunk
  pub after : List Chunk
  pub parts : chunks ≡ before ++ c ∷ after
  pub below : IsAboveAll at before
  pub above : at < c.base + c.length

-- some chunk of the list has this base, and is not empty
abbrev pub HasBase : List Chunk → ℕ → Type 0
HasBase chunks base = (c : Chunk) × Contains chunks c × (c.base ≡ base) × (0 < c.length)

-- The chunk with this base has been retired with this stamp.
pub record IsRetired (old new : List Chunk) (base stamp : ℕ) : Type 0 where
  pub before : List Chunk
  pub after : List Chunk
  pub chunk : Chunk
  pub was : old ≡ before ++ chunk ∷ after
  pub base_is : chunk.base ≡ base
  pub now : new ≡ before ++ record chunk { state = Retired stamp } ∷ after

-- retired, with a stamp of at most this number
abbrev pub is_due : ℕ → ChunkState → Bool
is_due least Live = false
is_due least (Retired stamp) = nat_le stamp least

-- the retired chunks with a stamp of at most this number, in the order of the list
abbrev pub freed : ℕ → List Chunk → List Chunk
freed least chunks = filter (λ (c : Chunk). is_due least c.state) chunks

-- the chunks that stay in the list: the live ones, and the retired ones with a stamp above this number
abbrev pub kept : ℕ → List Chunk → List Chunk
kept least chunks = filter (λ (c : Chunk). not (is_due least c.state)) chunks

-- The first of the chunks that are due have been taken out, in the order of the list: all those of the front of the list. None is
-- taken only if none is due.
pub record AreTaken (least : ℕ) (old new taken : List Chunk) : Type 0 where
  pub front : List Chunk
  pub back : List Chunk
  pub was : old ≡ front ++ back
  pub now : new ≡ kept least front ++ back
  pub taken_are : taken ≡ freed least front
  pub none : taken ≡ [] → freed least old ≡ []
