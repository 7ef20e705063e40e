-- Chunks by ascending base.
use Rattle.std.proofs.Common.{◌≡◌, ℕ, zero, suc, ◌+◌, ◌<◌, ◌≤◌, List, [], ◌∷◌, length, get_or, inl, inr, arith, refl, sym, subst, Contains}
use Rattle.std.proofs.lemmas.List.Elements.{Contains-append_right}
use Rattle.nc_list.specs.declared.chunk.Chunk.{Chunk}
use Rattle.nc_list.specs.Chunks.{IsNextChunk}
use Rattle.nc_base.proofs.Offered.{each_map, each_append, each_contains}
use Rattle.nc_list.proofs.Offered.{ascending_above, ascending_rest, meets_rest}
use Rattle.nc_base.specs.Each.{Each}
use Rattle.nc_region.specs.Region.{IsInChunk, IsAscending, IsAboveAll, Meets}

-- each of the chunks that ascend from a place lies above it
pub ascending_get : (from : ℕ) (chunks : List Chunk) (k : ℕ) (d : Chunk) → IsAscending from chunks → k < length chunks
    → from ≤ (get_or chunks k d).base
ascending_get from [] k d ascending lt = absurd (omega arith)
ascending_get from (c ∷ rest) zero d ascending lt = ascending.0
ascending_get from (c ∷ rest) (suc k) d ascending lt =
    omega (arith, ascending.0, ascending_get (c.base + c.length) rest k d ascending.1 (omega arith))

-- where each chunk lies beside a span, none overlaps it
beside_all : (base len : ℕ) (chunks : List Chunk) → Each (λ (d : Chunk). base < d.base + d.length → d.base < base + len → ⊥) chunks
    → Meets base len chunks → ⊥
beside_all base len [] beside m = m
beside_all base len (d ∷ rest) beside m =
    elim m [ inl here ↦ beside.0 here.0 here.1 | inr there ↦ beside_all base len rest beside.1 there ]

-- chunks that end at or below a span's base
pub above_all_free : (base len : ℕ) (chunks : List Chunk) → IsAboveAll base chunks → Meets base len chunks → ⊥
above_all_free base len chunks above =
    beside_all base len chunks
    (each_map (λ (d : Chunk). d.base + d.length ≤ base) (λ (d : Chunk). base < d.base + d.length → d.base < base + len → ⊥)
    (λ d h low high. omega (arith, h, low)) chunks above)

-- ---- the chunk that has a place, or the first above it

-- the chunks behind the next one of a place begin at its end or above
behind_next : (at : ℕ) (chunks : List Chunk) (c : Chunk) → IsAscending 65536 chunks → (n : IsNextChunk chunks at c)
    → Each (λ (d : Chunk). c.base + c.length ≤ d.base) n.after
behind_next at chunks c ascending n =
    ascending_above (c.base + c.length) n.after (ascending_rest 65536 n.before (c ∷ n.after) (subst (IsAscending 65536) n.parts ascending)).1

-- the next chunk of a place is in the list
pub next_contained : (at : ℕ) (chunks : List Chunk) (c : Chunk) → IsNextChunk chunks at c → Contains chunks c
next_contained at chunks c n =
    subst (λ (z : List Chunk). Contains z c) (sym n.parts) (Contains-append_right n.before (c ∷ n.after) c (0, omega arith, refl))

-- no chunk but the next one of a place has the place
pub only_next : (at : ℕ) (chunks : List Chunk) (c d : Chunk) → IsAscending 65536 chunks → IsNextChunk chunks at c → Contains chunks d
    → IsInChunk d at → d ≡ c
only_next at chunks c d ascending n has =
    let P : Chunk → Type 0 = λ x. IsInChunk x at → x ≡ c in
    each_contains P chunks d
    (subst (Each P) (sym n.parts)
    (each_append P n.before (c ∷ n.after)
    (each_map (λ (x : Chunk). x.base + x.length ≤ at) P (λ x h inside. absurd (omega (arith, h, inside.1))) n.before n.below) (
      (λ inside. refl),
      each_map (λ (x : Chunk). c.base + c.length ≤ x.base) P (λ x h inside. absurd (omega (arith, h, inside.0, n.above))) n.after
          (behind_next at chunks c ascending n),
    )))
    has

-- a span from a place to the base of its next chunk, or to below that, is free
pub next_free : (base len : ℕ) (chunks : List Chunk) (c : Chunk) → IsAscending 65536 chunks
    → IsNextChunk chunks base c → base + len ≤ c.base
    → Meets base len chunks → ⊥
next_free base len chunks c ascending n le =
    let P : Chunk → Type 0 = λ x. base < x.base + x.length → x.base < base + len → ⊥ in
    beside_all base len chunks
    (subst (Each P) (sym n.parts)
    (each_append P n.before (c ∷ n.after)
    (each_map (λ (x : Chunk). x.base + x.length ≤ base) P (λ x h low high. omega (arith, h, low)) n.before n.below) (
      (λ low high. omega (arith, high, le)),
      each_map (λ (x : Chunk). c.base + c.length ≤ x.base) P (λ x h low high. omega (arith, h, high, le)) n.after
          (behind_next base chunks c ascending n),
    )))

-- a span that reaches beyond the base of the next chunk overlaps a chunk of the list
pub next_meets : (base len : ℕ) (chunks : List Chunk) (c : Chunk) → IsNextChunk chunks base c → c.base < base + len → Meets base len chunks
next_meets base len chunks c n lt =
    subst (Meets base len) (sym n.parts) (meets_rest base len n.before (c ∷ n.after) (inl (n.above, lt)))
