-- In a region every retired span is quiet.
use Rattle.std.proofs.Common.{◌≡◌, ℕ, ◌+◌, ◌%◌, ◌<◌, ◌≤◌, ◌⊎◌, List, [], ◌∷◌, length, inl, inr, arith, refl, ◌∙◌, sym}
use Rattle.std.proofs.Common.{subst}
use Rattle.nc_decode.specs.declared.instruction.Mark.{Mark}
use Rattle.nc_text.specs.Places.{IsTrampoline, limit_of}
use Rattle.nc_text.specs.Machine.{State, Step}
use Rattle.nc_text.specs.Marks.{IsMarked, Admits}
use Rattle.nc_text.specs.MarkedText.{MarkedText, unused_text}
use Rattle.nc_text.proofs.Offered.{no_step_from_stop, step_borrowed, marked_within}
use Rattle.nc_list.specs.declared.chunk.Chunk.{Chunk}
use Rattle.nc_list.specs.declared.chunk.ChunkState.{ChunkState}
use Rattle.nc_list.specs.declared.chunk.ChunkState.TheVariants.{Live, Retired}
use Rattle.nc_base.proofs.Offered.{each_map, each_both}
use Rattle.nc_list.proofs.Offered.{ascending_above}
use Rattle.nc_acts.specs.Chunks.{HasGoodSpan, IsClosedChunk}
use Rattle.nc_base.specs.Each.{Each}
use Rattle.nc_region.specs.Quiet.{RetiredSpan, IsQuiet, with_retired, retired_spans, AreQuiet}
use Rattle.nc_region.specs.Region.{IsLive, IsInChunk, IsAscending, HoldsValid, IsRegion}
use Rattle.nc_acts.proofs.Offered.{alone, alone_fits_bytes, alone_within, alone_before, alone_behind, alone_bytes_long, alone_marks_long}
use Rattle.nc_region.proofs.chunks.Pieces.{valid_chunk_is_closed}
use Rattle.nc_text.proofs.Offered.{place_of, Before, Within, Behind, span_within}
use Rattle.nc_acts.proofs.Offered.{unused_is_start, within_span}

-- a place is in a live chunk, of which P holds, or in none
data Held (P : Chunk → Type 0) (chunks : List Chunk) (at : ℕ) : Type 0 where
  In : (c : Chunk) → IsLive c.state → IsInChunk c at → P c → Held P chunks at
  Free : Each (λ (c : Chunk). IsLive c.state → IsInChunk c at → ⊥) chunks → Held P chunks at

-- a chunk is live or it isn't
pub live_or_dead : (s : ChunkState) → IsLive s ⊎ (IsLive s → ⊥)
live_or_dead Live = inl tt
live_or_dead (Retired stamp) = inr (λ live. live)

-- a chunk in front that doesn't hold a place leaves it held or free as it is
with_head : (P : Chunk → Type 0) (c : Chunk) (rest : List Chunk) (at : ℕ) → (IsLive c.state → IsInChunk c at → ⊥) → Held P rest at
    → Held P (c ∷ rest) at
with_head P c rest at out held = elim held [ In d live inside p ↦ In d live inside p | Free f ↦ Free (out, f) ]

-- each place lies in a live chunk, of which the property holds, or in none
held : (P : Chunk → Type 0) (chunks : List Chunk) (at : ℕ) → Each P chunks → Held P chunks at
held P [] at each = Free tt
held P (c ∷ rest) at each =
    elim (live_or_dead c.state) [
      | inl live ↦
          elim (place_of c.base c.length at) [
            | Before l ↦ with_head P c rest at (λ x inside. omega (arith, inside.0, l)) (held P rest at each.1)
            | Within a b ↦ In c live (a, b) each.0
            | Behind p ↦ with_head P c rest at (λ x inside. omega (arith, inside.1, p)) (held P rest at each.1)
          ]
      | inr dead ↦ with_head P c rest at (λ live inside. dead live) (held P rest at each.1)
    ]

-- no live chunk has the place
abbrev pub IsFree : List Chunk → ℕ → Type 0
IsFree chunks at = Each (λ (c : Chunk). IsLive c.state → IsInChunk c at → ⊥) chunks

-- no live chunk has a place of a retired one
retired_free : (from : ℕ) (chunks : List Chunk) → IsAscending from chunks
    → Each (λ (r : Chunk). (IsLive r.state → ⊥) → (at : ℕ) → IsInChunk r at → IsFree chunks at) chunks
retired_free from [] ascending = tt
retired_free from (c ∷ rest) ascending =
    let above = ascending_above (c.base + c.length) rest ascending.1 in (
      λ dead at inside. (
        λ live here. dead live,
        each_map (λ (d : Chunk). c.base + c.length ≤ d.base) (λ (d : Chunk). IsLive d.state
            → IsInChunk d at → ⊥) (λ d h live there. omega (arith, h, inside.1, there.0)) rest above,
      ),
      each_both (λ (d : Chunk). c.base + c.length ≤ d.base) (λ (r : Chunk). (IsLive r.state → ⊥) → (at : ℕ) → IsInChunk r at
          → IsFree rest at) (λ (r : Chunk). (IsLive r.state → ⊥) → (at : ℕ) → IsInChunk r at → IsFree (c ∷ rest) at)
          (λ r h free dead at inside. (λ live there. omega (arith, h, inside.0, there.1), free dead at inside)) rest above
          (retired_free (c.base + c.length) rest ascending.1),
    )

-- a live chunk is closed by itself
chunk_of : (marked : MarkedText) (c : Chunk) (h : HoldsValid marked c)
    → IsClosedChunk c.base (limit_of marked.bytes) h.vetted.code h.vetted.marks
chunk_of marked c h =
    subst (λ (b : ℕ). IsClosedChunk b (limit_of marked.bytes) h.vetted.code h.vetted.marks) h.base_is
    (subst (λ (l : ℕ). IsClosedChunk h.vetted.base l h.vetted.code h.vetted.marks) h.limit_is (valid_chunk_is_closed h.vetted h.valid))

-- a step from a mark of a live chunk leads to a mark of the text with only that chunk, or to the trampoline
alone_step : (marked : MarkedText) (c : Chunk) (h : HoldsValid marked c) (now next : State) → IsMarked marked.marks now
    → IsInChunk c now.place → Step marked.bytes now next
    → IsMarked (alone marked c.base h.vetted.code h.vetted.marks).marks next ⊎ IsTrampoline next.place
alone_step marked c h now next m inside step =
    let j = chunk_of marked c h in
    step_borrowed marked.bytes (alone marked c.base h.vetted.code h.vetted.marks).marks now next
    (record {
      old = (alone marked c.base h.vetted.code h.vetted.marks).bytes;
      old_marks = (alone marked c.base h.vetted.code h.vetted.marks).marks;
      closed = j.closed;
      as_long = sym (alone_bytes_long marked c.base h.vetted.code h.vetted.marks j);
      was_marked = (
        m.0,
        subst (λ (mark : Mark). Admits mark now.masked) (h.marks_are now.place inside
            ∙ sym (alone_within marked c.base h.vetted.code h.vetted.marks now.place j inside.0 (omega (arith, inside.1, h.long)))) m.1,
      );
      kept = λ i is short k lt.
          let to : now.place + k < c.base + length h.vetted.code =
          within_span now.place i.len k c.base (length h.vetted.code) short lt j.placed.start j.placed.whole
          (omega (arith, inside.1, h.long)) in
          h.bytes_are (now.place + k) (omega (arith, inside.0), omega (arith, to, h.long))
          ∙ sym (span_within (unused_text (limit_of marked.bytes)).bytes c.base h.vetted.code (now.place + k) 0 j.placed.low
          (alone_fits_bytes marked c.base h.vetted.code h.vetted.marks j) (omega (arith, inside.0)) to);
      more = λ n there. there;
    })
    step

-- where the chunk alone is marked: in the chunk, or at a bundle start
alone_inside : (marked : MarkedText) (c : Chunk) (h : HoldsValid marked c) (now : State)
    → IsMarked (alone marked c.base h.vetted.code h.vetted.marks).marks now → IsInChunk c now.place ⊎ (now.place % 32 ≡ 0)
alone_inside marked c h now m =
    let j = chunk_of marked c h in
    let high : now.place < 65536 + length marked.bytes =
    omega (
      arith,
      alone_marks_long marked c.base h.vetted.code h.vetted.marks j,
      marked_within (alone marked c.base h.vetted.code h.vetted.marks).marks now m,
    ) in
    elim (place_of c.base c.length now.place) [
      | Before l ↦ inr (unused_is_start now.place now.masked
          (subst (λ (mark : Mark). Admits mark now.masked)
          (alone_before marked c.base h.vetted.code h.vetted.marks now.place j (m.0, high) l) m.1))
      | Within a b ↦ inl (a, b)
      | Behind p ↦ inr (unused_is_start now.place now.masked
          (subst (λ (mark : Mark). Admits mark now.masked)
          (alone_behind marked c.base h.vetted.code h.vetted.marks now.place j (m.0, high) (omega (arith, p, h.long))) m.1))
    ]

-- the span of a retired chunk is quiet
quiet_one : (marked : MarkedText) (chunks : List Chunk) → IsRegion marked chunks → (c : Chunk)
    → HasGoodSpan c.base (limit_of marked.bytes) c.length → ((at : ℕ) → IsInChunk c at → IsFree chunks at)
    → (stamp : ℕ) → IsQuiet marked.bytes marked.marks (record { base = c.base; length = c.length; stamp = stamp })
quiet_one marked chunks region c placed free stamp =
    record {
      stops = λ at inside. region.stops at (omega (arith, inside.0, placed.low), omega (arith, inside.1, placed.high)) (free at inside);
      unreached = λ now next m out step within.
          elim (held (λ (d : Chunk). (IsLive d.state → HoldsValid marked d)
          × (IsLive d.state → IsInChunk d next.place → ⊥)) chunks now.place
          (each_both (λ (d : Chunk). IsLive d.state → HoldsValid marked d) (λ (d : Chunk). IsLive d.state → IsInChunk d next.place → ⊥)
          (λ (d : Chunk). (IsLive d.state → HoldsValid marked d) × (IsLive d.state → IsInChunk d next.place → ⊥))
          (λ d a b. (a, b)) chunks region.live (free next.place within.0))) [
            | In d live inside p ↦
                elim (alone_step marked d (p.0 live) now next m inside step) [
                  | inl there ↦ elim (alone_inside marked d (p.0 live) next there) [
                    | inl within_d ↦ p.1 live within_d
                    | inr start ↦
                        within.1 start
                  ]
                  | inr zone ↦ omega (arith, zone.0, within.0.0, placed.low)
                ]
            | Free f ↦ no_step_from_stop marked.bytes now next (region.stops now.place step.0 f) step
          ];
    }

-- the span of each chunk that isn't live is quiet
pub quiet_chunks : (marked : MarkedText) (chunks : List Chunk) → IsRegion marked chunks
    → Each (λ (c : Chunk). (IsLive c.state → ⊥) → (stamp : ℕ)
    → IsQuiet marked.bytes marked.marks (record { base = c.base; length = c.length; stamp = stamp })) chunks
quiet_chunks marked chunks region =
    each_both (λ (c : Chunk). HasGoodSpan c.base (limit_of marked.bytes) c.length) (λ (c : Chunk). (IsLive c.state → ⊥) → (at : ℕ)
    → IsInChunk c at → IsFree chunks at)
    (λ (c : Chunk). (IsLive c.state → ⊥) → (stamp : ℕ)
    → IsQuiet marked.bytes marked.marks (record { base = c.base; length = c.length; stamp = stamp }))
    (λ c placed free dead stamp. quiet_one marked chunks region c placed (free dead) stamp) chunks region.placed
    (retired_free 65536 chunks region.ascending)

-- what holds of retired spans holds with that of one more chunk in front, live or not
with_one : (Q : RetiredSpan → Type 0) (c : Chunk) (s : ChunkState) (spans : List RetiredSpan) → c.state ≡ s
    → ((IsLive c.state → ⊥) → (stamp : ℕ) → Q (record { base = c.base; length = c.length; stamp = stamp })) → Each Q spans
    → Each Q (with_retired c s spans)
with_one Q c Live spans is q h = h
with_one Q c (Retired stamp) spans is q h = (q (λ live. subst IsLive is live) stamp, h)

-- what holds of the span of each chunk that isn't live holds of each retired span
retired_each : (Q : RetiredSpan → Type 0) (chunks : List Chunk) → Each (λ (c : Chunk). (IsLive c.state → ⊥) → (stamp : ℕ)
    → Q (record { base = c.base; length = c.length; stamp = stamp })) chunks → Each Q (retired_spans chunks)
retired_each Q [] h = tt
retired_each Q (c ∷ rest) h = with_one Q c c.state (retired_spans rest) refl h.0 (retired_each Q rest h.1)

-- every retired span is quiet
pub quiet_spans : (marked : MarkedText) (chunks : List Chunk) → IsRegion marked chunks → AreQuiet marked chunks
quiet_spans marked chunks region = retired_each (IsQuiet marked.bytes marked.marks) chunks (quiet_chunks marked chunks region)
