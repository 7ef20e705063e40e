-- Places that are ready: those of a part of a span, and those of listed chunks.
use Rattle.std.proofs.Common.{◌≡◌, ℕ, ◌+◌, ◌-◌, ◌<◌, ◌≤◌, Bool, true, false, cond, List, [], ◌∷◌, length, take, drop, filter, set}
use Rattle.std.proofs.Common.{arith, subst, inl, get_or, not, Contains}
use Rattle.std.specs.List.{insert}
use Rattle.nc_text.specs.Ready.{IsReady, AreReady, GetsReady}
use Rattle.nc_list.specs.declared.chunk.Chunk.{Chunk}
use Rattle.nc_base.proofs.Offered.{each_map, each_append, each_take, each_drop, each_set, each_get}
use Rattle.nc_base.specs.Each.{Each}
use Rattle.nc_region.specs.Region.{AreChunksReady}
use Rattle.nc_region.specs.Deletion.{kept, is_due}

-- a part of a span that is ready
pub ready_part : (made : List Bool) (base len at n : ℕ) → AreReady made base len → base ≤ at → at + n ≤ base + len → AreReady made at n
ready_part made base len at n all low high = λ k lt.
    let same : base + (at - base + k) ≡ at + k = omega (arith, low) in
    subst (λ (place : ℕ). IsReady made place) same (all (at - base + k) (omega (arith, low, high, lt)))

-- each place of a span that is ready is ready
pub ready_place : (made : List Bool) (base len at : ℕ) → AreReady made base len → base ≤ at → at < base + len → IsReady made at
ready_place made base len at all low high =
    let same : base + (at - base) ≡ at = omega (arith, low) in
    subst (λ (place : ℕ). IsReady made place) same (all (at - base) (omega (arith, low, high)))

-- where no page was made, none is lost
pub ready_same : (made : List Bool) (at len : ℕ) → GetsReady made made at len
ready_same made at len = record { kept = λ place is. is; needed = λ place is. inl is }

-- chunks stay ready when pages are made
pub chunks_stay_ready : (old new : List Bool) (at len : ℕ) → GetsReady old new at len → (chunks : List Chunk) → AreChunksReady old chunks
    → AreChunksReady new chunks
chunks_stay_ready old new at len gets chunks ready =
    each_map (λ (c : Chunk). AreReady old c.base c.length) (λ (c : Chunk). AreReady new c.base c.length)
    (λ c all k lt. gets.kept (c.base + k) (all k lt)) chunks ready

-- a chunk inserted whose places are ready
pub ready_inserted : (made : List Bool) (chunks : List Chunk) (k : ℕ) (c : Chunk) → AreChunksReady made chunks
    → AreReady made c.base c.length → AreChunksReady made (insert chunks k c)
ready_inserted made chunks k c ready here =
    let P : Chunk → Type 0 = λ d. AreReady made d.base d.length in
    each_append P (take k chunks) (c ∷ drop k chunks) (each_take P k chunks ready) (here, each_drop P k chunks ready)

-- a chunk set whose places are ready
pub ready_set : (made : List Bool) (chunks : List Chunk) (k : ℕ) (c : Chunk) → AreChunksReady made chunks
    → AreReady made c.base c.length → AreChunksReady made (set chunks k c)
ready_set made chunks k c ready here = each_set (λ (d : Chunk). AreReady made d.base d.length) chunks k c ready here

-- the member at an index
pub ready_listed : (made : List Bool) (chunks : List Chunk) (k : ℕ) (none : Chunk) → AreChunksReady made chunks → k < length chunks
    → (c : Chunk) → get_or chunks k none ≡ c → AreReady made c.base c.length
ready_listed made chunks k none ready lt c is =
    subst (λ (d : Chunk). AreReady made d.base d.length) is
    (each_get (λ (d : Chunk). AreReady made d.base d.length) chunks k none lt ready)

-- a member of the list
pub ready_held : (made : List Bool) (chunks : List Chunk) (c : Chunk) → AreChunksReady made chunks → Contains chunks c
    → AreReady made c.base c.length
ready_held made chunks c ready is = ready_listed made chunks is.0 c ready is.1 c is.2

-- what holds of a chunk and of each of the others holds of each of those that are kept, whether that chunk is or isn't
kept_when : (P : Chunk → Type 0) (b : Bool) (c : Chunk) (rest : List Chunk) → P c → Each P rest → Each P (cond b (c ∷ rest) rest)
kept_when P true c rest here others = (here, others)
kept_when P false c rest here others = others

-- what holds of each chunk holds of each that passes a test
each_filter : (P : Chunk → Type 0) (p : Chunk → Bool) (chunks : List Chunk) → Each P chunks → Each P (filter p chunks)
each_filter P p [] h = tt
each_filter P p (c ∷ chunks) h = kept_when P (p c) c (filter p chunks) h.0 (each_filter P p chunks h.1)

-- the chunks that stay have their pages ready
pub ready_kept : (made : List Bool) (least : ℕ) (chunks : List Chunk) → AreChunksReady made chunks → AreChunksReady made (kept least chunks)
ready_kept made least chunks ready =
    each_filter (λ (d : Chunk). AreReady made d.base d.length) (λ (d : Chunk). not (is_due least d.state)) chunks ready
