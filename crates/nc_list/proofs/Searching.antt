-- The part for a place.
use Rattle.std.proofs.Common.{◌≡◌, ℕ, suc, ◌+◌, ◌<◌, ◌≤◌, List, [], ◌∷◌, ◌++◌, length, get_or, take, drop, map, sym, ap, ◌∙◌, arith, subst, drop-cons}
use Rattle.std.proofs.lemmas.List.{length-map}
use Rattle.nc_list.specs.declared.chunk.Chunk.{Chunk}
use Rattle.nc_list.specs.Chunks.{IsAscending, IsAboveAll}
use Rattle.nc_list.specs.Stamps.{BeginsAt}
use Rattle.nc_list.specs.Parts.{BeginAbove, HaveSome, all_of}
use Rattle.nc_base.proofs.Offered.{each_map}
use Rattle.nc_list.proofs.Pieces.{around, all_around, part_is, some_at}
use Rattle.nc_list.proofs.Ascending.{ascending_before, ascending_behind}

-- chunks before one that begins at or below a place
before_one : (xs here ys : List Chunk) (first at : ℕ) → IsAscending 0 (xs ++ (here ++ ys)) → 0 < length here → BeginsAt first here
    → first ≤ at → IsAboveAll at xs
before_one xs [] ys first at ascending some begins le = absurd (omega (arith, some))
before_one xs (c ∷ here) ys first at ascending some begins le =
    each_map (λ (d : Chunk). d.base + d.length ≤ c.base) (λ (d : Chunk). d.base + d.length ≤ at) (λ d h. omega (arith, h, le, begins)) xs
    (ascending_before 0 xs c (here ++ ys) ascending)

-- chunks from one on that begins above a place
from_one : (xs here ys : List Chunk) (first at : ℕ) → IsAscending 0 (xs ++ (here ++ ys)) → 0 < length here → BeginsAt first here
    → at < first → BeginAbove at (here ++ ys)
from_one xs [] ys first at ascending some begins lt = absurd (omega (arith, some))
from_one xs (c ∷ here) ys first at ascending some begins lt =
    each_map (λ (d : Chunk). c.base ≤ d.base) (λ (d : Chunk). at < d.base) (λ d h. omega (arith, h, lt, begins)) (c ∷ (here ++ ys))
    (ascending_behind 0 xs c (here ++ ys) ascending)

-- at this index is a part that has a chunk, and it begins there
pub record HasFirst (parts : List (List Chunk)) (k first : ℕ) : Type 0 where
  pub inside : k < length parts
  pub some : 0 < length (get_or parts k [])
  pub begins : BeginsAt first (get_or parts k [])

-- one of several parts has a chunk, and begins where it says
pub has_first : {X : Type 0} (f : X → List Chunk) (xs : List X) (k first : ℕ) (p : X) → HaveSome (map f xs) → 1 < length xs → k < length xs
    → p ≡ get_or xs k p → BeginsAt first (f p) → HasFirst (map f xs) k first
has_first f xs k first p have several lt is begins =
    let long = length-map xs f in
    record {
      inside = omega (arith, lt, long);
      some = some_at (map f xs) k have (omega (arith, several, long)) (omega (arith, lt, long));
      begins = subst (BeginsAt first) (part_is f xs k p lt is) begins;
    }

-- the chunks before a part that begins at or below a place end there at the latest
pub part_below : (parts : List (List Chunk)) (k first at : ℕ) → IsAscending 0 (all_of parts) → HasFirst parts k first → first ≤ at
    → IsAboveAll at (all_of (take k parts))
part_below parts k first at ascending has le =
    before_one (all_of (take k parts)) (get_or parts k []) (all_of (drop (suc k) parts)) first at
    (subst (IsAscending 0)
    (ap all_of (around parts k [] has.inside) ∙ all_around (take k parts) (get_or parts k []) (drop (suc k) parts)) ascending)
    has.some has.begins le

-- the chunks of a part that begins above a place, and those behind it, begin above the place
pub part_above : (parts : List (List Chunk)) (k first at : ℕ) → IsAscending 0 (all_of parts) → HasFirst parts k first → at < first
    → BeginAbove at (all_of (drop k parts))
part_above parts k first at ascending has above =
    subst (λ (z : List (List Chunk)). BeginAbove at (all_of z)) (sym (drop-cons parts k [] has.inside))
    (from_one (all_of (take k parts)) (get_or parts k []) (all_of (drop (suc k) parts)) first at
    (subst (IsAscending 0)
    (ap all_of (around parts k [] has.inside) ∙ all_around (take k parts) (get_or parts k []) (drop (suc k) parts)) ascending)
    has.some has.begins above)
