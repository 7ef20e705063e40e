-- Lower bounds of stamps.
use Rattle.std.specs.Prelude.{◌≡◌, ℕ, ◌≤◌, ⊤, List, [], ◌∷◌}
use Rattle.nc_list.specs.declared.chunk.Chunk.{Chunk}
use Rattle.nc_list.specs.declared.chunk.ChunkState.{ChunkState}
use Rattle.nc_list.specs.declared.chunk.ChunkState.TheVariants.{Live, Retired}
use Rattle.nc_base.specs.Each.{Each}

-- live, or retired with a stamp of at least this number
abbrev pub IsSince : ℕ → ChunkState → Type 0
IsSince oldest Live = ⊤
IsSince oldest (Retired stamp) = oldest ≤ stamp

-- each of these chunks is live, or retired with a stamp of at least this number
abbrev pub AreSince : ℕ → List Chunk → Type 0
AreSince oldest chunks = Each (λ (c : Chunk). IsSince oldest c.state) chunks

-- the first of these chunks, if there is one, begins at this address
abbrev pub BeginsAt : ℕ → List Chunk → Type 0
BeginsAt first [] = ⊤
BeginsAt first (c ∷ cs) = first ≡ c.base
