-- A region stays one when a chunk of it becomes stops and is retired.
use Rattle.std.proofs.Common.{◌≡◌, ◌≢◌, ℕ, zero, suc, ◌+◌, ◌-◌, ◌<◌, ◌≤◌, ◌⊎◌, Bool, List, [], ◌∷◌, length, get_or, set, replicate}
use Rattle.std.proofs.Common.{length-append, Some, None, inl, inr, arith, refl, ◌∙◌, sym, ap, subst, ⊎_elim}
use Rattle.std.specs.List.{slice_get}
use Rattle.std.proofs.lemmas.Bool.{cases_lt}
use Rattle.std.proofs.lemmas.Option.{slice_get_cases, get_or_from_slice_get}
use Rattle.std.proofs.lemmas.List.{length-replicate, get_or-replicate}
use Rattle.std.proofs.Math.Seq.{get_or-append_seam, set-append_seam}
use Rattle.nc_decode.specs.declared.instruction.Mark.{Mark}
use Rattle.nc_text.specs.Places.{InRegion, limit_of, byte_at}
use Rattle.nc_text.specs.Marks.{mark_at}
use Rattle.nc_text.specs.MarkedText.{MarkedText, IsText, with_span}
use Rattle.nc_text.proofs.Offered.{length-with_span}
use Rattle.nc_list.specs.declared.chunk.Chunk.{Chunk}
use Rattle.nc_list.specs.declared.chunk.ChunkState.TheVariants.{Live, Retired}
use Rattle.nc_list.specs.Chunks.{IsRetired}
use Rattle.nc_base.proofs.Offered.{each_get, each_set, each_set_but, each_at_set, each_unset}
use Rattle.nc_acts.specs.Chunks.{HasGoodSpan}
use Rattle.nc_base.specs.Each.{Each}
use Rattle.nc_gens.specs.Seen.{HasRaised}
use Rattle.nc_acts.specs.Acts.{acts_of_delete}
use Rattle.nc_acts.specs.Log.{Logs, log_of_delete}
use Rattle.nc_region.specs.Deletion.{IsDeleted}
use Rattle.nc_region.specs.Region.{Region, IsLive, IsInChunk, IsAscending, HoldsValid, IsRegion}
use Rattle.nc_region.proofs.chunks.AgreesOutside.{AgreesOutside, LiesBeside, still_holds}
use Rattle.nc_text.proofs.Offered.{place_of, Before, Within, Behind, span_within, span_before, span_behind}
use Rattle.nc_list.proofs.Offered.{ascending_apart}
use Rattle.nc_acts.proofs.Offered.{told_logged, deleted_acts}

-- one chunk of an ascending list put in place of another of the same span
ascending_set : (from : ℕ) (chunks : List Chunk) (k : ℕ) (c d : Chunk) → IsAscending from chunks → k < length chunks → get_or chunks k c ≡ c
    → d.base ≡ c.base → d.length ≡ c.length → IsAscending from (set chunks k d)
ascending_set from [] k c d ascending lt here b l = absurd (omega arith)
ascending_set from (x ∷ rest) zero c d ascending lt here b l = (
  omega (arith, ascending.0, ap (λ (y : Chunk). y.base) here, b),
  (let end : x.base + x.length ≡ d.base + d.length =
      omega (arith, ap (λ (y : Chunk). y.base) here, ap (λ (y : Chunk). y.length) here, b, l) in
      subst (λ (n : ℕ). IsAscending n rest) end ascending.1),
)
ascending_set from (x ∷ rest) (suc k) c d ascending lt here b l =
    (ascending.0, ascending_set (x.base + x.length) rest k c d ascending.1 (omega (arith, lt)) here b l)

-- where a chunk stands in the list
pub listed_there : (chunks : List Chunk) (k : ℕ) (c : Chunk) → slice_get chunks k ≡ Some c → (k < length chunks) × (get_or chunks k c ≡ c)
listed_there chunks k c is =
    elim (slice_get_cases chunks k).1 [
      | inl there ↦ (there.1, get_or_from_slice_get chunks k c c is)
      | inr past ↦ absurd (let no : None ≡ Some c = sym past.1 ∙ is in cc)
    ]

-- a live chunk of the list, whose bytes have become stops
pub record Deletes (old new : MarkedText) (chunks : List Chunk) (k : ℕ) (c : Chunk) : Type 0 where
  pub region : IsRegion old chunks
  pub inside : k < length chunks
  pub here : get_or chunks k c ≡ c
  pub live : IsLive c.state
  pub whole : IsText new
  pub bytes_are : new.bytes ≡ with_span old.bytes (c.base - 65536) (replicate c.length 244)
  pub marks_are : new.marks ≡ old.marks

-- a chunk that is deleted lies in the region
placed_there : (old new : MarkedText) (chunks : List Chunk) (k : ℕ) (c : Chunk) → Deletes old new chunks k c
    → HasGoodSpan c.base (limit_of old.bytes) c.length
placed_there old new chunks k c r = subst (λ (d : Chunk). HasGoodSpan d.base (limit_of old.bytes) d.length) r.here
    (each_get (λ (d : Chunk). HasGoodSpan d.base (limit_of old.bytes) d.length) chunks k c r.inside r.region.placed)

-- outside the deleted chunk's span nothing is changed
agrees : (old new : MarkedText) (chunks : List Chunk) (k : ℕ) (c : Chunk) → Deletes old new chunks k c
    → AgreesOutside old new c.base c.length
agrees old new chunks k c r =
    let p = placed_there old new chunks k c r in
    let n = length-replicate {A = ℕ} c.length 244 in
    record {
      as_long = ap (λ (z : List ℕ). length z) r.bytes_are
          ∙ length-with_span old.bytes (c.base - 65536) (replicate c.length 244) (omega (arith, n, p.low, p.high));
      bytes = λ at low out.
          ap (λ (z : List ℕ). byte_at z at) r.bytes_are
          ∙ elim out [
            | inl l ↦ span_before old.bytes c.base (replicate c.length 244) at 0 p.low (omega (arith, n, p.high)) low l
            | inr b ↦ span_behind old.bytes c.base (replicate c.length 244) at 0 p.low (omega (arith, n, p.high)) (omega (arith, b, n))
          ];
      marks = λ at low out. ap (λ (z : List Mark). mark_at z at) r.marks_are;
    }

-- in the span of a deleted chunk stand stops
stops_there : (old new : MarkedText) (chunks : List Chunk) (k : ℕ) (c : Chunk) → Deletes old new chunks k c → (at : ℕ) → IsInChunk c at
    → byte_at new.bytes at ≡ 244
stops_there old new chunks k c r at inside =
    let p = placed_there old new chunks k c r in
    let n = length-replicate {A = ℕ} c.length 244 in
    ap (λ (z : List ℕ). byte_at z at) r.bytes_are
    ∙ (span_within old.bytes c.base (replicate c.length 244) at 0 p.low (omega (arith, n, p.high)) inside.0 (omega (arith, inside.1, n))
    ∙ get_or-replicate c.length (at - c.base) 244 0 (omega (arith, inside.0, inside.1)))

-- each other chunk of an ascending list lies beside the one at an index
others_beside : (old : MarkedText) (chunks : List Chunk) (k : ℕ) (c : Chunk) → IsAscending 65536 chunks → k < length chunks
    → get_or chunks k c ≡ c → (i : ℕ) → i < length chunks → i ≢ k → LiesBeside c (get_or chunks i c)
others_beside old chunks k c ascending inside here i lt other =
    ⊎_elim
    (λ (before : i < k). inl (omega (arith, ascending_apart 65536 chunks i k c ascending before inside, ap (λ (x : Chunk). x.base) here)))
    (λ (from : k ≤ i). inr (omega (
      arith,
      ascending_apart 65536 chunks k i c ascending
          (⊎_elim (λ (l : k < i). l) (λ (e : i ≤ k). absurd (other (omega (arith, e, from)))) (cases_lt k i)) lt,
      ap (λ (x : Chunk). x.base + x.length) here,
    )))
    (cases_lt i k)

-- the region with the chunk retired
pub region_deleted : (old new : MarkedText) (chunks : List Chunk) (k : ℕ) (c : Chunk) (stamp : ℕ) → Deletes old new chunks k c
    → IsRegion new (set chunks k (record c { state = Retired stamp }))
region_deleted old new chunks k c stamp r =
    let p = placed_there old new chunks k c r in
    let a = agrees old new chunks k c r in
    record {
      whole = r.whole;
      ascending = ascending_set 65536 chunks k c (record c { state = Retired stamp }) r.region.ascending r.inside r.here refl refl;
      placed = subst (λ (l : ℕ). Each (λ (x : Chunk). HasGoodSpan x.base l x.length) (set chunks k (record c { state = Retired stamp })))
          (ap (λ (n : ℕ). 65536 + n) (sym a.as_long))
          (each_set (λ (x : Chunk). HasGoodSpan x.base (limit_of old.bytes) x.length) chunks k
          (record c { state = Retired stamp }) r.region.placed p);
      live = each_set_but (λ (x : Chunk). IsLive x.state → HoldsValid new x) chunks k (record c { state = Retired stamp }) c
          (λ i lt other live. still_holds old new c (get_or chunks i c) a
          (others_beside old chunks k c r.region.ascending r.inside r.here i lt other)
          (each_get (λ (x : Chunk). IsLive x.state → HoldsValid old x) chunks i c lt r.region.live live))
          (λ live. absurd live);
      stops = λ at inside free.
          let old_inside : InRegion old.bytes at = (inside.0, omega (arith, inside.1, a.as_long)) in
          let all : ((at < c.base) ⊎ (c.base + c.length ≤ at)) → Each (λ (x : Chunk). IsLive x.state → IsInChunk x at → ⊥) chunks = λ out.
          each_unset (λ (x : Chunk). IsLive x.state → IsInChunk x at → ⊥) chunks k (record c { state = Retired stamp }) c r.inside free
          (subst (λ (x : Chunk). IsLive x.state → IsInChunk x at → ⊥) (sym r.here)
          (λ live in_c. elim out [ inl l ↦ omega (arith, l, in_c.0) | inr b ↦ omega (arith, b, in_c.1) ])) in
          elim (place_of c.base c.length at) [
            | Before l ↦ a.bytes at inside.0 (inl l) ∙ r.region.stops at old_inside (all (inl l))
            | Within low high ↦ stops_there old new chunks k c r at (low, high)
            | Behind b ↦ a.bytes at inside.0 (inr b) ∙ r.region.stops at old_inside (all (inr b))
          ];
      unused = λ at inside free.
          ap (λ (z : List Mark). mark_at z at) r.marks_are
          ∙ r.region.unused at (inside.0, omega (arith, inside.1, a.as_long))
          (each_unset (λ (x : Chunk). IsInChunk x at → ⊥) chunks k (record c { state = Retired stamp }) c r.inside free
          (subst (λ (x : Chunk). IsInChunk x at → ⊥) (sym r.here)
          (each_at_set (λ (x : Chunk). IsInChunk x at → ⊥) chunks k (record c { state = Retired stamp }) r.inside free)));
    }

-- no two chunks of the list have the same base
same_index : (chunks : List Chunk) (i k : ℕ) (c : Chunk) → IsAscending 65536 chunks → Each (λ (d : Chunk). 0 < d.length) chunks
    → i < length chunks → k < length chunks → (get_or chunks i c).base ≡ (get_or chunks k c).base → i ≡ k
same_index chunks i k c ascending some here there is =
    let long = each_get (λ (d : Chunk). 0 < d.length) chunks i c here some in
    let long' = each_get (λ (d : Chunk). 0 < d.length) chunks k c there some in
    ⊎_elim
    (λ (before : i < k). absurd (omega (arith, ascending_apart 65536 chunks i k c ascending before there, is, long)))
    (λ (from : k ≤ i). ⊎_elim
    (λ (behind : k < i). absurd (omega (arith, ascending_apart 65536 chunks k i c ascending behind here, is, long')))
    (λ (to : i ≤ k). omega (arith, from, to)) (cases_lt k i))
    (cases_lt i k)

-- the list once the chunk at an index has been retired, by its base
pub retired_set : (old new : List Chunk) (k base stamp : ℕ) (c : Chunk) → IsAscending 65536 old → Each (λ (d : Chunk). 0 < d.length) old
    → k < length old → get_or old k c ≡ c → c.base ≡ base → IsRetired old new base stamp
    → new ≡ set old k (record c { state = Retired stamp })
retired_set old new k base stamp c ascending some inside here base_is r =
    let i : ℕ = length r.before in
    let there : get_or old i c ≡ r.chunk = ap (λ (z : List Chunk). get_or z i c) r.was ∙ get_or-append_seam r.before r.chunk r.after c in
    let same : i ≡ k = same_index old i k c ascending some
    (omega (arith, ap (λ (z : List Chunk). length z) r.was, length-append r.before (r.chunk ∷ r.after))) inside
    (ap (λ (d : Chunk). d.base) there ∙ (r.base_is ∙ (sym base_is ∙ ap (λ (d : Chunk). d.base) (sym here)))) in
    let chunk_is : r.chunk ≡ c = sym there ∙ (ap (λ (j : ℕ). get_or old j c) same ∙ here) in
    r.now
    ∙ (sym (set-append_seam r.before r.chunk r.after (record r.chunk { state = Retired stamp }))
    ∙ (ap (λ (z : List Chunk). set z i (record r.chunk { state = Retired stamp })) (sym r.was)
    ∙ (ap (λ (j : ℕ). set old j (record r.chunk { state = Retired stamp })) same
    ∙ ap (λ (d : Chunk). set old k (record d { state = Retired stamp })) chunk_is)))

-- a region with these marks and pages
abbrev with_parts : Region → List Mark → List Bool → Region
with_parts r marks made =
    record {
      marked = record { bytes = r.marked.bytes; marks = marks };
      made = made;
      chunks = r.chunks;
      keeper = r.keeper;
      logged = r.logged;
    }

-- what a deletion leaves, by its parts
abbrev pub deleted_is : (old new : Region) (k base stamp : ℕ) (chunk : Chunk) → slice_get old.chunks k ≡ Some chunk → chunk.state ≡ Live
    → chunk.base ≡ base → old.keeper.numbers.generation < 4611686018427387904 → stamp ≡ old.keeper.numbers.generation + 1
    → new.marked.bytes ≡ with_span old.marked.bytes (base - 65536) (replicate chunk.length 244) → new.marked.marks ≡ old.marked.marks
    → new.made ≡ old.made → new.chunks ≡ set old.chunks k (record chunk { state = Retired stamp })
    → HasRaised old.keeper new.keeper
    → Logs old.logged new.logged (log_of_delete old.marked.marks base chunk.length) → IsDeleted old new base stamp
deleted_is old new k base stamp chunk listed live base_is room stamp_is bytes marks made chunks keeper log =
    record {
      index = k;
      chunk = chunk;
      listed = listed;
      live = live;
      base_is = base_is;
      room = room;
      stamp_is = stamp_is;
      bytes = bytes;
      chunks = chunks;
      keeper = keeper;
      others = ap (λ (m : List Mark). with_parts new m new.made) marks ∙ ap (λ (d : List Bool). with_parts new old.marked.marks d) made;
      acts = told_logged old.logged new.logged (log_of_delete old.marked.marks base chunk.length)
          (acts_of_delete old.marked.marks base chunk.length) (deleted_acts old.marked.marks base chunk.length) log;
      log = log;
    }
