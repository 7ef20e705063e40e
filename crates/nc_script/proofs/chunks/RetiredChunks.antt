-- The chunks of a script after a deletion of one of them.
use Rattle.std.proofs.Common.{◌≡◌, ◌≢◌, ℕ, zero, suc, ◌+◌, ◌-◌, ◌≤◌, ◌⊎◌, inl, inr, Bool, cond, List, [], ◌∷◌, length, set, map}
use Rattle.std.proofs.Common.{replicate, Some, refl, sym, ap, ◌∙◌, subst, arith, eq-eqb}
use Rattle.std.specs.List.{slice_get}
use Rattle.std.proofs.lemmas.List.{length-replicate}
use Rattle.nc_text.specs.Places.{limit_of}
use Rattle.nc_text.specs.MarkedText.{with_span}
use Rattle.nc_list.specs.declared.chunk.Chunk.{Chunk}
use Rattle.nc_list.specs.declared.chunk.ChunkState.{ChunkState}
use Rattle.nc_list.specs.declared.chunk.ChunkState.TheVariants.{Live, Retired}
use Rattle.nc_base.specs.Each.{Each}
use Rattle.nc_base.proofs.Offered.{each_both}
use Rattle.nc_acts.specs.Chunks.{HasGoodSpan}
use Rattle.nc_region.specs.Region.{IsAscending, IsLive}
use Rattle.nc_region.specs.Deletion as region
use Rattle.nc_script.specs.Script as script
use Rattle.nc_script.specs.Script.{standing_bytes}
use Rattle.nc_script.specs.Reuse as reuse
use Rattle.nc_script.specs.Reuse.{retired_at}
use Rattle.nc_script.specs.machinery.Session.{state_in, script_chunk}
use Rattle.nc_output.proofs.Offered.{eqb_no}
use Rattle.nc_script.proofs.chunks.RegionText.{length-state_in}
use Rattle.nc_script.proofs.chunks.Creating.{chunks_apart}
use Rattle.nc_script.proofs.chunks.Listed.{ascending_each}

-- chunks of other bases stay as they are
others_stay : (base stamp : ℕ) (cs : List script.ScriptChunk) → Each (λ (c : script.ScriptChunk). c.base ≢ base) cs
    → map (retired_at base stamp) cs ≡ cs
others_stay base stamp [] h = refl
others_stay base stamp (c ∷ cs) h =
    ap (λ (t : Bool). cond t (record c { state = script.Retired (length (standing_bytes c.state)) stamp }) c ∷ map (retired_at base stamp) cs)
    (eqb_no c.base base h.0)
    ∙ ap (λ (rest : List script.ScriptChunk). c ∷ rest) (others_stay base stamp cs h.1)

-- bases of the script's chunks are those of the region's
bases : (bytes : List ℕ) (base : ℕ) (chunks : List Chunk) → Each (λ (c : Chunk). c.base ≢ base) chunks
    → Each (λ (c : script.ScriptChunk). c.base ≢ base) (map (script_chunk bytes) chunks)
bases bytes base [] h = tt
bases bytes base (c ∷ rest) h = (h.0, bases bytes base rest h.1)

-- chunks apart from a deleted one
apart_stay : (bytes : List ℕ) (base len stamp : ℕ) (chunks : List Chunk) → 0x10000 ≤ base → base + len ≤ limit_of bytes
    → Each (λ (c : Chunk). HasGoodSpan c.base (limit_of bytes) c.length) chunks
    → Each (λ (c : Chunk). (c.base + c.length ≤ base) ⊎ (base + len ≤ c.base)) chunks → Each (λ (c : Chunk). c.base ≢ base) chunks
    → map (script_chunk (with_span bytes (base - 0x10000) (replicate len 0xF4))) chunks
    ≡ map (retired_at base stamp) (map (script_chunk bytes) chunks)
apart_stay bytes base len stamp chunks low high placed apart other =
    let stops = replicate len 0xF4 in
    let long : length stops ≡ len = length-replicate len 0xF4 in
    chunks_apart bytes stops base chunks low (omega (arith, high, long)) placed
    (subst (λ (n : ℕ). Each (λ (c : Chunk). (c.base + c.length ≤ base) ⊎ (base + n ≤ c.base)) chunks) (sym long) apart)
    ∙ sym (others_stay base stamp (map (script_chunk bytes) chunks) (bases bytes base chunks other))

-- a chunk at an index has a good span where each has one
pub placed_at : (bytes : List ℕ) (k : ℕ) (chunks : List Chunk) (c : Chunk)
    → Each (λ (d : Chunk). HasGoodSpan d.base (limit_of bytes) d.length) chunks → slice_get chunks k ≡ Some c
    → HasGoodSpan c.base (limit_of bytes) c.length
placed_at bytes k [] c p e = absurd cc
placed_at bytes zero (x ∷ xs) c p e = let same : x ≡ c = cc in subst (λ (y : Chunk). HasGoodSpan y.base (limit_of bytes) y.length) same p.0
placed_at bytes (suc k) (x ∷ xs) c p e = placed_at bytes k xs c p.1 e

-- the chunks of the script after one of them was deleted
pub retired_chunks : (bytes : List ℕ) (stamp from k : ℕ) (chunks : List Chunk) (c : Chunk) → IsAscending from chunks
    → Each (λ (d : Chunk). HasGoodSpan d.base (limit_of bytes) d.length) chunks → slice_get chunks k ≡ Some c
    → map (script_chunk (with_span bytes (c.base - 0x10000) (replicate c.length 0xF4))) (set chunks k (record c { state = Retired stamp }))
    ≡ map (retired_at c.base stamp) (map (script_chunk bytes) chunks)
retired_chunks bytes stamp from k [] c ascending placed is = absurd cc
retired_chunks bytes stamp from zero (d ∷ rest) c ascending placed is =
    let same : d ≡ c = cc in
    let new = with_span bytes (c.base - 0x10000) (replicate c.length 0xF4) in
    let here : HasGoodSpan c.base (limit_of bytes) c.length = subst (λ (x : Chunk). HasGoodSpan x.base
    (limit_of bytes) x.length) same placed.0 in
    let high : c.base + c.length ≤ limit_of bytes = omega (arith, here.high) in
    let above : Each (λ (x : Chunk). c.base + c.length ≤ x.base) rest =
    subst (λ (x : Chunk). Each (λ (y : Chunk). x.base + x.length ≤ y.base) rest) same
    (ascending_each (d.base + d.length) (d.base + d.length) rest (omega arith) ascending.1) in
    let tail = apart_stay bytes c.base c.length stamp rest here.low high placed.1
    (each_both (λ (x : Chunk). c.base + c.length ≤ x.base) (λ (x : Chunk). HasGoodSpan x.base (limit_of bytes) x.length)
    (λ (x : Chunk). (x.base + x.length ≤ c.base) ⊎ (c.base + c.length ≤ x.base)) (λ x a p. inr a) rest above placed.1)
    (each_both (λ (x : Chunk). c.base + c.length ≤ x.base) (λ (x : Chunk). HasGoodSpan x.base (limit_of bytes) x.length)
    (λ (x : Chunk). x.base ≢ c.base) (λ x a p e. omega (arith, a, e, here.some)) rest above placed.1) in
    let long = length-state_in bytes c.base c.length c.state here.low high in
    let shown = script_chunk bytes c in
    let head : retired_at c.base stamp shown ≡ record { base = c.base; state = script.Retired c.length stamp } =
    ap (λ (t : Bool). cond t (record shown { state = script.Retired (length (standing_bytes shown.state)) stamp }) shown)
    (eq-eqb c.base c.base refl)
    ∙ ap (λ (n : ℕ). record { base = c.base; state = script.Retired n stamp }) long in
    ap (λ (cs : List script.ScriptChunk). record { base = c.base; state = script.Retired c.length stamp } ∷ cs) tail
    ∙ (ap (λ (x : script.ScriptChunk). x ∷ map (retired_at c.base stamp) (map (script_chunk bytes) rest)) (sym head)
    ∙ ap (λ (x : Chunk). retired_at c.base stamp (script_chunk bytes x) ∷ map (retired_at c.base stamp) (map (script_chunk bytes) rest))
    (sym same))
retired_chunks bytes stamp from (suc k) (d ∷ rest) c ascending placed is =
    let new = with_span bytes (c.base - 0x10000) (replicate c.length 0xF4) in
    let below : d.base + d.length ≤ c.base = ascending_at (d.base + d.length) k rest c ascending.1 is in
    let there = placed_at bytes k rest c placed.1 is in
    let first = apart_stay bytes c.base c.length stamp (d ∷ []) there.low (omega (arith, there.high)) (placed.0, tt) (inl below, tt)
    ((λ e. omega (arith, e, below, placed.0.some)), tt) in
    let one : script_chunk new d ≡ retired_at c.base stamp (script_chunk bytes d) = cc in
    ap (λ (x : script.ScriptChunk). x ∷ map (script_chunk new) (set rest k (record c { state = Retired stamp }))) one
    ∙ ap (λ (cs : List script.ScriptChunk). retired_at c.base stamp (script_chunk bytes d) ∷ cs)
    (retired_chunks bytes stamp (d.base + d.length) k rest c ascending.1 placed.1 is)
  where
    ascending_at : (from k : ℕ) (rest : List Chunk) (c : Chunk) → IsAscending from rest → slice_get rest k ≡ Some c → from ≤ c.base
    ascending_at from k [] c r e = absurd cc
    ascending_at from zero (x ∷ xs) c r e = let same : x ≡ c = cc in subst (λ (y : Chunk). from ≤ y.base) same r.0
    ascending_at from (suc k) (x ∷ xs) c r e = omega (arith, r.0, ascending_at (x.base + x.length) k xs c r.1 e)

-- a chunk that is live in the region is live in the script
live_state : (bytes : List ℕ) (base len : ℕ) (s : ChunkState) → IsLive s → reuse.IsLiveState (state_in bytes base len s)
live_state bytes base len Live live = tt
live_state bytes base len (Retired stamp) live = absurd live

-- a chunk that is live in the script is live in the region
state_live : (bytes : List ℕ) (base len : ℕ) (s : ChunkState) → reuse.IsLiveState (state_in bytes base len s) → IsLive s
state_live bytes base len Live live = tt
state_live bytes base len (Retired stamp) live = absurd live

-- a live chunk of this base stands in the script's list
pub has_live : (bytes : List ℕ) (base : ℕ) (chunks : List Chunk) → region.HasLive chunks base
    → reuse.ListsLive (map (script_chunk bytes) chunks) base
has_live bytes base [] (c, (k, l, e), live, is) = absurd (omega (arith, l))
has_live bytes base (d ∷ rest) (c, (zero, l, e), live, is) = (
  0,
  script_chunk bytes d,
  omega arith,
  refl,
  (ap (λ (x : Chunk). x.base) e ∙ is, live_state bytes d.base d.length d.state (subst (λ (x : Chunk). IsLive x.state) (sym e) live)),
)
has_live bytes base (d ∷ rest) (c, (suc k, l, e), live, is) =
    let (j, x, m, g, h) = has_live bytes base rest (c, (k, omega (arith, l), e), live, is) in
    (suc j, x, omega (arith, m), g, h)

-- a live chunk of this base stands in the region's list if one does in the script's
pub live_has : (bytes : List ℕ) (base : ℕ) (chunks : List Chunk) → reuse.ListsLive (map (script_chunk bytes) chunks) base
    → region.HasLive chunks base
live_has bytes base [] (k, x, l, is, h) = absurd (omega (arith, l))
live_has bytes base (d ∷ rest) (zero, x, l, is, h) =
    let same : x ≡ script_chunk bytes d = sym is in
    let here = subst (λ (y : script.ScriptChunk). (y.base ≡ base) × reuse.IsLiveState y.state) same h in
    (d, (0, omega arith, refl), state_live bytes d.base d.length d.state here.1, here.0)
live_has bytes base (d ∷ rest) (suc k, x, l, is, h) =
    let found = live_has bytes base rest (k, x, omega (arith, l), is, h) in
    (found.0, (suc found.1.0, omega (arith, found.1.1), found.1.2), found.2, found.3)
