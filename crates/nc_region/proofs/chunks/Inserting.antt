-- A region with one more chunk.
use Rattle.std.proofs.Common.{◌≡◌, ℕ, ◌+◌, ◌-◌, ◌<◌, ◌≤◌, List, [], ◌∷◌, length, get_or, take, drop, inl, inr, arith}
use Rattle.std.proofs.Common.{◌∙◌, sym, ap, subst, zero, suc}
use Rattle.std.specs.List.{insert}
use Rattle.std.proofs.lemmas.List.{take-append-drop, get_or-replicate, length-replicate}
use Rattle.nc_decode.specs.declared.instruction.Mark.{Mark}
use Rattle.nc_decode.specs.declared.instruction.Mark.TheVariants.{Unmarked}
use Rattle.nc_text.specs.Places.{limit_of}
use Rattle.std.proofs.lemmas.List.FromFn.{get_or-map-range_with_len}
use Rattle.nc_text.specs.MarkedText.{MarkedText, IsText, unused_mark}
use Rattle.nc_text.proofs.Offered.{new_is_text, length-with_span}
use Rattle.nc_vet.specs.Chunk as vet
use Rattle.nc_list.specs.declared.chunk.Chunk.{Chunk}
use Rattle.nc_base.proofs.Offered.{each_map, each_both, each_take, each_drop, each_append, each_split}
use Rattle.nc_acts.specs.Chunks.{HasGoodSpan, IsClosedChunk, with_chunk}
use Rattle.nc_acts.specs.Chunks.{IsUnused}
use Rattle.nc_base.specs.Each.{Each}
use Rattle.nc_region.specs.Region.{IsNew, IsLive, IsInChunk, IsAscending, HoldsValid, IsRegion, IsAboveAll, IsBelowAll}
use Rattle.nc_region.proofs.chunks.AgreesOutside.{AgreesOutside, still_holds}
use Rattle.nc_text.proofs.Offered.{place_of, Before, Within, Behind, span_before, span_within, span_behind}

-- what holds of each member of a list with an element inserted holds of the element and of each member of the list
each_but : {X : Type 0} (P : X → Type 0) (xs : List X) (k : ℕ) (x : X) → Each P (insert xs k x) → P x × Each P xs
each_but P xs k x h =
    let r = each_split P (take k xs) (x ∷ drop k xs) h in
    (r.1.0, subst (Each P) (take-append-drop k xs) (each_append P (take k xs) (drop k xs) r.0 r.1.1))

-- what holds of each member still does where an element with it is inserted
each_insert : {X : Type 0} (P : X → Type 0) (xs : List X) (k : ℕ) (x : X) → P x → Each P (take k xs) → Each P (drop k xs)
    → Each P (insert xs k x)
each_insert P xs k x p front back = each_append P (take k xs) (x ∷ drop k xs) front (p, back)

-- ascending chunks that all begin at or above an address ascend from it
ascending_from : (from to : ℕ) (chunks : List Chunk) → IsAscending from chunks → IsBelowAll to chunks → IsAscending to chunks
ascending_from from to [] ascending below = tt
ascending_from from to (c ∷ rest) ascending below = (below.0, ascending.1)

-- a list with a chunk inserted is ascending
ascending_insert : (from : ℕ) (chunks : List Chunk) (k : ℕ) (c : Chunk) → IsAscending from chunks → from ≤ c.base
    → IsAboveAll c.base (take k chunks) → IsBelowAll (c.base + c.length) (drop k chunks) → IsAscending from (insert chunks k c)
ascending_insert from chunks zero c ascending low above below = (low, ascending_from from (c.base + c.length) chunks ascending below)
ascending_insert from [] (suc k) c ascending low above below = (low, tt)
ascending_insert from (d ∷ rest) (suc k) c ascending low above below =
    (ascending.0, ascending_insert (d.base + d.length) rest k c ascending.1 above.0 above.1 below)

-- what a new chunk's place and bytes keep
pub record Inserts (marked : MarkedText) (chunks : List Chunk) (k : ℕ) (c : Chunk) (bytes : List ℕ) (marks : List Mark) : Type 0 where
  pub region : IsRegion marked chunks
  pub vetted : vet.MarkedChunk
  pub valid : vet.IsValid vetted
  pub base_is : vetted.base ≡ c.base
  pub limit_is : vetted.limit ≡ limit_of marked.bytes
  pub code_is : vetted.code ≡ bytes
  pub marks_is : vetted.marks ≡ marks
  pub chunk : IsClosedChunk c.base (limit_of marked.bytes) bytes marks
  pub long : length bytes ≡ c.length
  pub above : IsAboveAll c.base (take k chunks)
  pub below : IsBelowAll (c.base + c.length) (drop k chunks)

-- the chunk fits into the bytes
fits_bytes : (marked : MarkedText) (chunks : List Chunk) (k : ℕ) (c : Chunk) (bytes : List ℕ) (marks : List Mark)
    → Inserts marked chunks k c bytes marks → c.base + length bytes ≤ 65536 + length marked.bytes
fits_bytes marked chunks k c bytes marks n = omega (arith, n.chunk.placed.high)

-- the chunk's marks fit into the marks
fits_marks : (marked : MarkedText) (chunks : List Chunk) (k : ℕ) (c : Chunk) (bytes : List ℕ) (marks : List Mark)
    → Inserts marked chunks k c bytes marks → c.base + length marks ≤ 65536 + length marked.marks
fits_marks marked chunks k c bytes marks n = omega (arith, n.chunk.placed.high, n.chunk.as_long, n.region.whole.as_long)

-- outside the new chunk nothing changes
agrees : (marked : MarkedText) (chunks : List Chunk) (k : ℕ) (c : Chunk) (bytes : List ℕ) (marks : List Mark)
    → Inserts marked chunks k c bytes marks → AgreesOutside marked (with_chunk marked c.base bytes marks) c.base c.length
agrees marked chunks k c bytes marks n =
    let low = n.chunk.placed.low in
    let bytes_fit = fits_bytes marked chunks k c bytes marks n in
    let marks_fit = fits_marks marked chunks k c bytes marks n in
    record {
      as_long = length-with_span marked.bytes (c.base - 65536) bytes (omega (arith, low, bytes_fit));
      bytes = λ at from out.
          elim out [
            | inl l ↦ span_before marked.bytes c.base bytes at 0 low bytes_fit from l
            | inr p ↦ span_behind marked.bytes c.base bytes at 0 low bytes_fit (omega (arith, p, n.long))
          ];
      marks = λ at from out.
          elim out [
            | inl l ↦ span_before marked.marks c.base marks at Unmarked low marks_fit from l
            | inr p ↦ span_behind marked.marks c.base marks at Unmarked low marks_fit (omega (arith, p, n.long, n.chunk.as_long))
          ];
    }

-- the text holds the new chunk, which is valid, once it is put in
holds_new : (marked : MarkedText) (chunks : List Chunk) (k : ℕ) (c : Chunk) (bytes : List ℕ) (marks : List Mark)
    → Inserts marked chunks k c bytes marks → HoldsValid (with_chunk marked c.base bytes marks) c
holds_new marked chunks k c bytes marks n =
    record {
      vetted = n.vetted;
      valid = n.valid;
      base_is = n.base_is;
      limit_is = n.limit_is ∙ ap (λ (m : ℕ). 65536 + m) (sym (agrees marked chunks k c bytes marks n).as_long);
      long = ap (λ (bs : List ℕ). length bs) n.code_is ∙ n.long;
      bytes_are = λ at inside. span_within marked.bytes c.base bytes at 0 n.chunk.placed.low
          (fits_bytes marked chunks k c bytes marks n) inside.0 (omega (arith, inside.1, n.long))
          ∙ ap (λ (bs : List ℕ). get_or bs (at - c.base) 0) (sym n.code_is);
      marks_are = λ at inside. span_within marked.marks c.base marks at Unmarked n.chunk.placed.low
          (fits_marks marked chunks k c bytes marks n) inside.0 (omega (arith, inside.1, n.long, n.chunk.as_long))
          ∙ ap (λ (ms : List Mark). get_or ms (at - c.base) Unmarked) (sym n.marks_is);
    }

-- the region with the chunk
pub region_with_chunk : (marked : MarkedText) (chunks : List Chunk) (k : ℕ) (c : Chunk) (bytes : List ℕ) (marks : List Mark)
    → Inserts marked chunks k c bytes marks → IsLive c.state → IsText (with_chunk marked c.base bytes marks)
    → IsRegion (with_chunk marked c.base bytes marks) (insert chunks k c)
region_with_chunk marked chunks k c bytes marks n live whole =
    let a = agrees marked chunks k c bytes marks n in
    record {
      whole = whole;
      ascending = ascending_insert 65536 chunks k c n.region.ascending n.chunk.placed.low n.above n.below;
      placed =
          subst (λ (l : ℕ). Each (λ (d : Chunk). HasGoodSpan d.base l d.length) (insert chunks k c)) (ap (λ (m : ℕ). 65536 + m) (sym a.as_long))
          (each_insert (λ (d : Chunk). HasGoodSpan d.base (limit_of marked.bytes) d.length) chunks k c
          (subst (λ (l : ℕ). HasGoodSpan c.base (limit_of marked.bytes) l) n.long n.chunk.placed)
          (each_take (λ (d : Chunk). HasGoodSpan d.base (limit_of marked.bytes) d.length) k chunks n.region.placed)
          (each_drop (λ (d : Chunk). HasGoodSpan d.base (limit_of marked.bytes) d.length) k chunks n.region.placed));
      live =
          each_insert (λ (d : Chunk). IsLive d.state → HoldsValid (with_chunk marked c.base bytes marks) d) chunks k c
          (λ x. holds_new marked chunks k c bytes marks n)
          (each_both (λ (d : Chunk). d.base + d.length ≤ c.base) (λ (d : Chunk). IsLive d.state → HoldsValid marked d)
          (λ (d : Chunk). IsLive d.state → HoldsValid (with_chunk marked c.base bytes marks) d)
          (λ d apart holds x. still_holds marked (with_chunk marked c.base bytes marks) c d a (inl apart) (holds x)) (take k chunks) n.above
          (each_take (λ (d : Chunk). IsLive d.state → HoldsValid marked d) k chunks n.region.live))
          (each_both (λ (d : Chunk). c.base + c.length ≤ d.base) (λ (d : Chunk). IsLive d.state → HoldsValid marked d)
          (λ (d : Chunk). IsLive d.state → HoldsValid (with_chunk marked c.base bytes marks) d)
          (λ d apart holds x. still_holds marked (with_chunk marked c.base bytes marks) c d a (inr apart) (holds x)) (drop k chunks) n.below
          (each_drop (λ (d : Chunk). IsLive d.state → HoldsValid marked d) k chunks n.region.live));
      stops = λ at inside free.
          let f = each_but (λ (d : Chunk). IsLive d.state → IsInChunk d at → ⊥) chunks k c free in
          elim (place_of c.base c.length at) [
            | Before l ↦ a.bytes at inside.0 (inl l) ∙ n.region.stops at (inside.0, omega (arith, inside.1, a.as_long)) f.1
            | Within low high ↦ absurd (f.0 live (low, high))
            | Behind p ↦ a.bytes at inside.0 (inr p) ∙ n.region.stops at (inside.0, omega (arith, inside.1, a.as_long)) f.1
          ];
      unused = λ at inside free.
          let f = each_but (λ (d : Chunk). IsInChunk d at → ⊥) chunks k c free in
          elim (place_of c.base c.length at) [
            | Before l ↦ a.marks at inside.0 (inl l) ∙ n.region.unused at (inside.0, omega (arith, inside.1, a.as_long)) f.1
            | Within low high ↦ absurd (f.0 (low, high))
            | Behind p ↦ a.marks at inside.0 (inr p) ∙ n.region.unused at (inside.0, omega (arith, inside.1, a.as_long)) f.1
          ];
    }

-- a span that meets no chunk is unused
free_if_apart : (chunks : List Chunk) (k base len at : ℕ) → IsAboveAll base (take k chunks) → IsBelowAll (base + len) (drop k chunks)
    → base ≤ at → at < base + len → Each (λ (d : Chunk). IsInChunk d at → ⊥) chunks
free_if_apart chunks k base len at above below low high =
    subst (Each (λ (d : Chunk). IsInChunk d at → ⊥)) (take-append-drop k chunks)
    (each_append (λ (d : Chunk). IsInChunk d at → ⊥) (take k chunks) (drop k chunks)
    (each_map (λ (d : Chunk). d.base + d.length ≤ base) (λ (d : Chunk). IsInChunk d at → ⊥) (λ d h inside. omega (arith, h, inside.1, low))
    (take k chunks) above)
    (each_map (λ (d : Chunk). base + len ≤ d.base) (λ (d : Chunk). IsInChunk d at → ⊥) (λ d h inside. omega (arith, h, inside.0, high))
    (drop k chunks) below))

-- a span that meets no chunk is unused
pub unused_if_apart : (marked : MarkedText) (chunks : List Chunk) (k base len : ℕ) → IsRegion marked chunks
    → HasGoodSpan base (limit_of marked.bytes) len → IsAboveAll base (take k chunks) → IsBelowAll (base + len) (drop k chunks)
    → IsUnused marked base len
unused_if_apart marked chunks k base len region placed above below =
    record {
      stops = λ at a b.
          let free = free_if_apart chunks k base len at above below a b in
          region.stops at (omega (arith, a, placed.low), omega (arith, b, placed.high))
          (each_map (λ (d : Chunk). IsInChunk d at → ⊥) (λ (d : Chunk). IsLive d.state → IsInChunk d at → ⊥)
          (λ d out live. out) chunks free);
      unused = λ at a b. region.unused at (omega (arith, a, placed.low), omega (arith, b, placed.high))
          (free_if_apart chunks k base len at above below a b);
    }

-- a new text is a region without a chunk
pub region_of_new : (marked : MarkedText) → IsNew marked → IsRegion marked []
region_of_new marked new =
    subst (λ (c : MarkedText). IsRegion c []) (sym new.2)
    (record {
      whole = new_is_text new.0 new.1;
      ascending = tt;
      placed = tt;
      live = tt;
      stops = λ at inside free. get_or-replicate {A = ℕ} (new.0 - 65536) (at - 65536) 244 0
          (omega (arith, inside.0, inside.1, length-replicate {A = ℕ} (new.0 - 65536) 244));
      unused = λ at inside free. get_or-map-range_with_len unused_mark 65536 (new.0 - 65536) (at - 65536) at Unmarked
          (omega (arith, inside.0, inside.1, length-replicate {A = ℕ} (new.0 - 65536) 244)) (omega (arith, inside.0));
    })
