-- Lower bounds of stamps, and first bases.
use Rattle.std.proofs.Common.{◌≡◌, ℕ, ◌<◌, ◌≤◌, false, List, [], ◌∷◌, ◌++◌, length, set, refl, arith}
use Rattle.std.proofs.lemmas.Bool.{lt-leb}
use Rattle.nc_list.specs.declared.chunk.Chunk.{Chunk}
use Rattle.nc_list.specs.declared.chunk.ChunkState.{ChunkState}
use Rattle.nc_list.specs.declared.chunk.ChunkState.TheVariants.{Live, Retired}
use Rattle.nc_list.specs.Chunks.{is_due, freed}
use Rattle.nc_list.specs.Stamps.{IsSince, AreSince, BeginsAt}
use Rattle.nc_base.proofs.Offered.{each_map, each_append, each_set}

-- a lower bound of a stamp stays one when lowered
pub since_below : (low high : ℕ) (s : ChunkState) → low ≤ high → IsSince high s → IsSince low s
since_below low high Live le is = tt
since_below low high (Retired stamp) le is = omega (arith, is)

-- a lower bound of all stamps stays one when lowered
pub all_below : (low high : ℕ) (chunks : List Chunk) → low ≤ high → AreSince high chunks → AreSince low chunks
all_below low high chunks le all =
    each_map (λ (c : Chunk). IsSince high c.state) (λ (c : Chunk). IsSince low c.state) (λ c is. since_below low high c.state le is) chunks all

-- the lower of two bounds is one of the stamps of some chunks and one more behind them
pub since_last : (low high other : ℕ) (c : Chunk) (chunks : List Chunk) → low ≤ high → low ≤ other → IsSince other c.state
    → AreSince high chunks → AreSince low (chunks ++ c ∷ [])
since_last low high other c chunks le also is all =
    each_append (λ (d : Chunk). IsSince low d.state) chunks (c ∷ []) (all_below low high chunks le all) (since_below low other c.state also is, tt)

-- the lower of two bounds is one of the stamps of some chunks and one set among them
pub since_set : (low high other : ℕ) (c : Chunk) (chunks : List Chunk) (i : ℕ) → low ≤ high → low ≤ other → IsSince other c.state
    → AreSince high chunks → AreSince low (set chunks i c)
since_set low high other c chunks i le also is all =
    each_set (λ (d : Chunk). IsSince low d.state) chunks i c (all_below low high chunks le all) (since_below low other c.state also is)

-- the lower of two bounds is one of the stamps of two lists
pub since_both : (low high other : ℕ) (xs ys : List Chunk) → low ≤ high → low ≤ other → AreSince high xs → AreSince other ys
    → AreSince low (xs ++ ys)
since_both low high other xs ys le also first second =
    each_append (λ (d : Chunk). IsSince low d.state) xs ys (all_below low high xs le first) (all_below low other ys also second)

-- a chunk with a later stamp isn't due
pub not_due : (least low : ℕ) (s : ChunkState) → least < low → IsSince low s → is_due least s ≡ false
not_due least low Live lt is = refl
not_due least low (Retired stamp) lt is = lt-leb stamp least (omega (arith, is))

-- no chunk is freed by a number below a lower bound of the stamps
pub none_freed : (least low : ℕ) (chunks : List Chunk) → least < low → AreSince low chunks → freed least chunks ≡ []
none_freed least low [] lt all = refl
none_freed least low (c ∷ chunks) lt all = rw (not_due least low c.state lt all.0) (none_freed least low chunks lt all.1)

-- the first base of a list that begins with a chunk
pub begins_first : (first : ℕ) (xs ys : List Chunk) → 0 < length xs → BeginsAt first xs → BeginsAt first (xs ++ ys)
begins_first first [] ys some begins = absurd (omega (arith, some))
begins_first first (c ∷ xs) ys some begins = begins
