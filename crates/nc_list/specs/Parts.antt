-- Chunks in parts that stand one behind the other.
use Rattle.std.specs.Prelude.{◌≡◌, ◌≢◌, ℕ, ◌+◌, ◌<◌, ◌≤◌, List, [], ◌∷◌, ◌++◌, length, take, drop}
use Rattle.std.specs.List.{flat_map}
use Rattle.nc_list.specs.declared.chunk.Chunk.{Chunk}
use Rattle.nc_base.specs.Each.{Each}
use Rattle.nc_list.specs.Chunks.{IsAboveAll, IsBelowAll, AreTaken, freed}
use Rattle.nc_list.specs.Stamps.{AreSince, BeginsAt}

-- each of the chunks begins at or below the place
abbrev pub BeginTo : ℕ → List Chunk → Type 0
BeginTo at chunks = Each (λ (d : Chunk). d.base ≤ at) chunks

-- each of the chunks begins above the place
abbrev pub BeginAbove : ℕ → List Chunk → Type 0
BeginAbove at chunks = Each (λ (d : Chunk). at < d.base) chunks

-- A chunk has been put between those that end at or below its base and those that begin at or above its end.
pub record IsPut (old new : List Chunk) (c : Chunk) : Type 0 where
  pub before : List Chunk
  pub after : List Chunk
  pub was : old ≡ before ++ after
  pub now : new ≡ before ++ c ∷ after
  pub below : IsAboveAll c.base before
  pub above : IsBelowAll (c.base + c.length) after

-- The chunks have been parted in two, and neither is without a chunk.
pub record AreParted (old lower upper : List Chunk) : Type 0 where
  pub was : old ≡ lower ++ upper
  pub lower_some : 0 < length lower
  pub upper_some : 0 < length upper

-- the chunks of these parts, in order
abbrev pub all_of : List (List Chunk) → List Chunk
all_of parts = flat_map (λ (p : List Chunk). p) parts

-- how many chunks stand before each of these parts, if `from` others stand before all of them
abbrev pub starts_of : ℕ → List (List Chunk) → List ℕ
starts_of from [] = []
starts_of from (p ∷ ps) = from ∷ starts_of (from + length p) ps

-- each part has a chunk, unless there is only one
abbrev pub HaveSome : List (List Chunk) → Type 0
HaveSome parts = 1 < length parts → Each (λ (p : List Chunk). 0 < length p) parts

-- each part but the one at this index has a chunk, unless there is only one part
abbrev pub OthersHaveSome : List (List Chunk) → ℕ → Type 0
OthersHaveSome parts k = 1 < length parts
    → Each (λ (p : List Chunk). 0 < length p) (take k parts) × Each (λ (p : List Chunk). 0 < length p) (drop (k + 1) parts)

-- The part at this index is the one for a place: the chunks of those before it end at or below the place, and the chunks of those
-- behind it begin above it.
pub record IsPartFor (parts : List (List Chunk)) (k at : ℕ) : Type 0 where
  pub inside : k < length parts
  pub below : IsAboveAll at (all_of (take k parts))
  pub above : BeginAbove at (all_of (drop (k + 1) parts))

-- A row's knowledge of its parts: the number of chunks before each, the number of all chunks, the base of the first, and a lower
-- bound of stamps.
pub record IsRow (parts : List (List Chunk)) (starts : List ℕ) (count first oldest : ℕ) : Type 0 where
  pub starts_are : starts ≡ starts_of 0 parts
  pub some : HaveSome parts
  pub count_is : count ≡ length (all_of parts)
  pub begins : BeginsAt first (all_of parts)
  pub since : AreSince oldest (all_of parts)

-- The first of the chunks that are due have been taken out of the part at this index, which is the first part that has any.
pub record AreTakenFrom (least : ℕ) (old new : List (List Chunk)) (taken : List Chunk) (k : ℕ) : Type 0 where
  pub before : List (List Chunk)
  pub here : List Chunk
  pub left : List Chunk
  pub after : List (List Chunk)
  pub was : old ≡ before ++ here ∷ after
  pub now : new ≡ before ++ left ∷ after
  pub index : k ≡ length before
  pub earlier : freed least (all_of before) ≡ []
  pub taken_are : AreTaken least here left taken
  pub some : taken ≢ []
