-- Chunks around a place in an ascending list.
use Rattle.std.proofs.Common.{◌≡◌, ℕ, zero, suc, ◌+◌, ◌-◌, ◌<◌, ◌≤◌, List, [], ◌∷◌, ◌++◌, length, get_or, set, take, drop, refl, sym, ap, ◌∙◌, subst, inl, inr, arith, length-take, length-drop, take-append-drop, get_or-take, get_or-drop}
use Rattle.std.proofs.lemmas.Bool.{cases_lt}
use Rattle.std.proofs.lemmas.List.{get_or_default}
use Rattle.std.specs.List.{insert}
use Rattle.nc_list.specs.declared.chunk.Chunk.{Chunk}
use Rattle.nc_list.specs.declared.chunk.ChunkState.TheVariants.{Retired}
use Rattle.nc_list.specs.Chunks.{IsAscending, IsAboveAll, IsNextChunk, HasBase, IsRetired, Meets, live}
use Rattle.nc_list.specs.Stamps.{BeginsAt}
use Rattle.nc_list.specs.Parts.{IsPut, BeginTo, BeginAbove}
use Rattle.nc_base.proofs.Offered.{each_get, each_take_from, each_drop_from}
use Rattle.nc_list.proofs.Ascending.{ascending_at, ascending_apart, meets_first, meets_rest}
use Rattle.nc_list.proofs.Pieces.{around, around_set}
use Rattle.nc_list.proofs.Combining.{above_free}

-- the chunks before one that begins at or below a place end at or below it
pub before_begun : (chunks : List Chunk) (i at : ℕ) (d : Chunk) → IsAscending 0 chunks → i < length chunks → (get_or chunks i d).base ≤ at
    → IsAboveAll at (take i chunks)
before_begun chunks i at d ascending lt begun =
    each_take_from (λ (e : Chunk). e.base + e.length ≤ at) i chunks d (omega (arith, lt))
    (λ j before. omega (arith, begun, ascending_apart 0 chunks j i d ascending before lt))

-- the chunks up to one that ends at or below a place end at or below it
pub up_to_ended : (chunks : List Chunk) (k at : ℕ) (d : Chunk) → IsAscending 0 chunks → k ≤ length chunks
    → (0 < k → (get_or chunks (k - 1) d).base + (get_or chunks (k - 1) d).length ≤ at) → IsAboveAll at (take k chunks)
up_to_ended chunks k at d ascending le ended =
    each_take_from (λ (e : Chunk). e.base + e.length ≤ at) k chunks d le (λ j before.
    let end = ended (omega (arith, before)) in
    elim (cases_lt j (k - 1)) [
      | inl lt ↦ omega (arith, end, ascending_apart 0 chunks j (k - 1) d ascending lt (omega (arith, before, le)))
      | inr last ↦
          let same : j ≡ k - 1 = omega (arith, before, last) in
          subst (λ (n : ℕ). (get_or chunks n d).base + (get_or chunks n d).length ≤ at) (sym same) end
    ])

-- the chunk at an index is the next one
pub next_at : (chunks : List Chunk) (i at : ℕ) (c : Chunk) → i < length chunks → c ≡ get_or chunks i c → IsAboveAll at (take i chunks)
    → at < c.base + c.length → IsNextChunk chunks at c
next_at chunks i at c lt is below above = record {
  before = take i chunks;
  after = drop (suc i) chunks;
  parts = around chunks i c lt ∙ ap (λ (e : Chunk). take i chunks ++ e ∷ drop (suc i) chunks) (sym is);
  below = below;
  above = above;
}

-- the last of the chunks that begin at or below a place
pub last_begun : (chunks : List Chunk) (k at : ℕ) (d : Chunk) → 0 < k → k ≤ length chunks → BeginTo at (take k chunks)
    → (get_or chunks (k - 1) d).base ≤ at
last_begun chunks k at d some le to =
    let inner : k - 1 < k = omega (arith, some) in
    let same = ap (λ (e : Chunk). e.base) (get_or-take k chunks (k - 1) d inner) in
    let low : (get_or (take k chunks) (k - 1) d).base ≤ at =
    each_get (λ (e : Chunk). e.base ≤ at) (take k chunks) (k - 1) d (omega (arith, some, le, length-take k chunks)) to in
    omega (arith, low, same)

-- chunks up to one that begins at or below a place
pub begun_to : (chunks : List Chunk) (k at : ℕ) (d : Chunk) → IsAscending 0 chunks → k ≤ length chunks
    → (0 < k → (get_or chunks (k - 1) d).base ≤ at) → BeginTo at (take k chunks)
begun_to chunks k at d ascending le begun =
    each_take_from (λ (e : Chunk). e.base ≤ at) k chunks d le (λ j before.
    omega (
      arith,
      begun (omega (arith, before)),
      ascending_at 0 chunks j (k - 1) d ascending (omega (arith, before)) (omega (arith, before, le)),
    ))

-- chunks from one on that begins above a place
pub begun_above : (chunks : List Chunk) (k at : ℕ) (d : Chunk) → IsAscending 0 chunks → (k < length chunks → at < (get_or chunks k d).base)
    → BeginAbove at (drop k chunks)
begun_above chunks k at d ascending above =
    each_drop_from (λ (e : Chunk). at < e.base) k chunks d (λ j from_it lt.
    omega (arith, above (omega (arith, from_it, lt)), ascending_at 0 chunks k j d ascending from_it lt))

-- each chunk from an index on begins above a place where all of them do
pub later_above : (chunks : List Chunk) (k at j : ℕ) (d : Chunk) → k ≤ j → j < length chunks → BeginAbove at (drop k chunks)
    → at < (get_or chunks j d).base
later_above chunks k at j d from_it lt above =
    let later : at < (get_or (drop k chunks) (j - k) d).base =
    each_get (λ (e : Chunk). at < e.base) (drop k chunks) (j - k) d (omega (arith, lt, from_it, length-drop k chunks)) above in
    let place : k + (j - k) ≡ j = omega (arith, from_it) in
    let there = get_or-drop k chunks (j - k) d ∙ ap (λ (n : ℕ). get_or chunks n d) place in
    omega (arith, later, ap (λ (e : Chunk). e.base) there)

-- a chunk that begins at a place isn't one of them
has_before : (chunks : List Chunk) (k base j : ℕ) (d : Chunk) → BeginAbove base (drop k chunks) → j < length chunks
    → (get_or chunks j d).base ≡ base → j < k
has_before chunks k base j d above lt has =
    elim (cases_lt j k) [
      | inl before ↦ before
      | inr from_it ↦ absurd (omega (arith, has, later_above chunks k base j d from_it lt above))
    ]

-- the last chunk that begins at or below a base has it, if any does
pub last_has : (chunks : List Chunk) (k base : ℕ) (d : Chunk) → IsAscending 0 chunks → k ≤ length chunks → BeginTo base (take k chunks)
    → BeginAbove base (drop k chunks) → HasBase chunks base → (0 < k) × ((get_or chunks (k - 1) d).base ≡ base)
last_has chunks k base d ascending le to above has =
    let j : ℕ = has.1.0 in
    let there = ap (λ (e : Chunk). e.base) (get_or_default chunks j d has.0 has.1.1 ∙ has.1.2) ∙ has.2 in
    let before : j < k = has_before chunks k base j d above has.1.1 there in
    let low = last_begun chunks k base d (omega (arith, before)) le to in
    let rise = ascending_at 0 chunks j (k - 1) d ascending (omega (arith, before)) (omega (arith, before, le)) in
    (omega (arith, before), omega (arith, low, rise, there))

-- the chunk at an index is retired
pub retired_at : (chunks : List Chunk) (i base stamp : ℕ) (c : Chunk) → i < length chunks → c ≡ get_or chunks i c → c.base ≡ base
    → IsRetired chunks (set chunks i (record c { state = Retired stamp })) base stamp
retired_at chunks i base stamp c lt is has = record {
  before = take i chunks;
  after = drop (suc i) chunks;
  chunk = c;
  was = around chunks i c lt ∙ ap (λ (e : Chunk). take i chunks ++ e ∷ drop (suc i) chunks) (sym is);
  base_is = has;
  now = around_set chunks i (record c { state = Retired stamp }) lt;
}

-- the first base stays where a chunk is replaced by one with its base
pub begins_set : (first : ℕ) (chunks : List Chunk) (i : ℕ) (c d : Chunk) → BeginsAt first chunks → c.base ≡ (get_or chunks i d).base
    → BeginsAt first (set chunks i c)
begins_set first [] i c d begins same = tt
begins_set first (e ∷ chunks) zero c d begins same = begins ∙ sym same
begins_set first (e ∷ chunks) (suc i) c d begins same = begins

-- chunks that begin at or below a free span end at or below it
pub below_free : (base len : ℕ) (chunks : List Chunk) → 0 < len → BeginTo base chunks → ¬ Meets base len chunks → IsAboveAll base chunks
below_free base len [] some to free = tt
below_free base len (d ∷ rest) some to free = (
  elim (cases_lt base (d.base + d.length)) [
    | inl lt ↦ absurd (free (inl (lt, omega (arith, to.0, some))))
    | inr le ↦ le
  ],
  below_free base len rest some to.1 (λ m. free (inr m)),
)

-- a chunk with a free span is put where its base is
pub put_at : (chunks : List Chunk) (k base len : ℕ) → 0 < len → BeginTo base (take k chunks) → BeginAbove base (drop k chunks)
    → ¬ Meets base len chunks → IsPut chunks (insert chunks k (live base len)) (live base len)
put_at chunks k base len some to above free = record {
  before = take k chunks;
  after = drop k chunks;
  was = sym (take-append-drop k chunks);
  now = refl;
  below = below_free base len (take k chunks) some to (λ m.
      free (subst (Meets base len) (take-append-drop k chunks) (meets_first base len (take k chunks) (drop k chunks) m)));
  above = above_free base len (drop k chunks) above (λ m.
      free (subst (Meets base len) (take-append-drop k chunks) (meets_rest base len (take k chunks) (drop k chunks) m)));
}
