-- Chunks by ascending base.
use Rattle.std.proofs.Common.{◌≡◌, ℕ, zero, suc, ◌+◌, ◌<◌, ◌≤◌, List, [], ◌∷◌, ◌++◌, length, get_or, ap, inl, inr, arith}
use Rattle.std.proofs.lemmas.Bool.{cases_lt}
use Rattle.nc_list.specs.declared.chunk.Chunk.{Chunk}
use Rattle.nc_list.specs.Chunks.{IsAscending, IsAboveAll, IsBelowAll, Meets}
use Rattle.nc_base.proofs.Offered.{each_map, each_get}

-- chunks that ascend from a place ascend from any place below it
pub ascending_lower : (low from : ℕ) (chunks : List Chunk) → low ≤ from → IsAscending from chunks → IsAscending low chunks
ascending_lower low from [] le ascending = tt
ascending_lower low from (c ∷ rest) le ascending = (omega (arith, le, ascending.0), ascending.1)

-- chunks that ascend from a place lie above it
pub ascending_above : (from : ℕ) (chunks : List Chunk) → IsAscending from chunks → IsBelowAll from chunks
ascending_above from [] ascending = tt
ascending_above from (c ∷ rest) ascending = (
  ascending.0,
  each_map (λ (d : Chunk). c.base + c.length ≤ d.base) (λ (d : Chunk). from ≤ d.base) (λ d h. omega (arith, h, ascending.0)) rest
      (ascending_above (c.base + c.length) rest ascending.1),
)

-- the first part of an ascending list is ascending
pub ascending_first : (from : ℕ) (xs ys : List Chunk) → IsAscending from (xs ++ ys) → IsAscending from xs
ascending_first from [] ys ascending = tt
ascending_first from (c ∷ xs) ys ascending = (ascending.0, ascending_first (c.base + c.length) xs ys ascending.1)

-- the rest of an ascending list is ascending
pub ascending_rest : (from : ℕ) (xs ys : List Chunk) → IsAscending from (xs ++ ys) → IsAscending from ys
ascending_rest from [] ys ascending = ascending
ascending_rest from (c ∷ xs) ys ascending =
    ascending_lower from (c.base + c.length) ys (omega (arith, ascending.0)) (ascending_rest (c.base + c.length) xs ys ascending.1)

-- in an ascending list the chunks before one end at or below its base
pub ascending_before : (from : ℕ) (xs : List Chunk) (c : Chunk) (ys : List Chunk) → IsAscending from (xs ++ c ∷ ys) → IsAboveAll c.base xs
ascending_before from [] c ys ascending = tt
ascending_before from (d ∷ xs) c ys ascending = (
  (ascending_rest (d.base + d.length) xs (c ∷ ys) ascending.1).0,
  ascending_before (d.base + d.length) xs c ys ascending.1,
)

-- in an ascending list the chunks from one on begin at or above its base
pub ascending_behind : (from : ℕ) (xs : List Chunk) (c : Chunk) (ys : List Chunk) → IsAscending from (xs ++ c ∷ ys)
    → IsBelowAll c.base (c ∷ ys)
ascending_behind from xs c ys ascending =
    let rest = ascending_rest from xs (c ∷ ys) ascending in (
      omega arith,
      each_map (λ (d : Chunk). c.base + c.length ≤ d.base) (λ (d : Chunk). c.base ≤ d.base) (λ d h. omega (arith, h)) ys
          (ascending_above (c.base + c.length) ys rest.1),
    )

-- a chunk ends at or below the base of each one behind it
pub ascending_apart : (from : ℕ) (chunks : List Chunk) (i j : ℕ) (d : Chunk) → IsAscending from chunks → i < j → j < length chunks
    → (get_or chunks i d).base + (get_or chunks i d).length ≤ (get_or chunks j d).base
ascending_apart from [] i j d ascending before lt = absurd (omega (arith, lt))
ascending_apart from (c ∷ rest) i zero d ascending before lt = absurd (omega (arith, before))
ascending_apart from (c ∷ rest) zero (suc j) d ascending before lt =
    each_get (λ (e : Chunk). c.base + c.length ≤ e.base) rest j d (omega (arith, lt)) (ascending_above (c.base + c.length) rest ascending.1)
ascending_apart from (c ∷ rest) (suc i) (suc j) d ascending before lt =
    ascending_apart (c.base + c.length) rest i j d ascending.1 (omega (arith, before)) (omega (arith, lt))

-- in an ascending list a chunk begins at or below each one from it on
pub ascending_at : (from : ℕ) (chunks : List Chunk) (i j : ℕ) (d : Chunk) → IsAscending from chunks → i ≤ j → j < length chunks
    → (get_or chunks i d).base ≤ (get_or chunks j d).base
ascending_at from chunks i j d ascending le lt =
    elim (cases_lt i j) [
      | inl before ↦ omega (arith, ascending_apart from chunks i j d ascending before lt)
      | inr from_it ↦
          let same : i ≡ j = omega (arith, le, from_it) in
          omega (arith, ap (λ (n : ℕ). (get_or chunks n d).base) same)
    ]

-- a span that meets the first part of a list meets the list
pub meets_first : (base len : ℕ) (xs ys : List Chunk) → Meets base len xs → Meets base len (xs ++ ys)
meets_first base len [] ys m = absurd m
meets_first base len (d ∷ xs) ys m = elim m [ inl here ↦ inl here | inr later ↦ inr (meets_first base len xs ys later) ]

-- a span that meets the rest of a list meets the list
pub meets_rest : (base len : ℕ) (xs ys : List Chunk) → Meets base len ys → Meets base len (xs ++ ys)
meets_rest base len [] ys m = m
meets_rest base len (d ∷ xs) ys m = inr (meets_rest base len xs ys m)
