-- What a call makes of a region is a region.
use Rattle.std.proofs.Common.{◌≡◌, ℕ, ◌+◌, ◌-◌, ◌≤◌, Bool, true, false, not, cond, List, [], ◌∷◌, ◌++◌, length, replicate}
use Rattle.std.proofs.Common.{inl, inr, arith, refl, ◌∙◌, sym, ap, subst, append_assoc}
use Rattle.std.proofs.lemmas.List.{length-replicate, get_or-replicate}
use Rattle.nc_decode.specs.Bundles.{IsLawfulLimit}
use Rattle.nc_vet.specs.Chunk.{MarkedChunk, Piece, IsValid}
use Rattle.nc_text.specs.Places.{limit_of}
use Rattle.nc_text.specs.Marks.{IsClosed}
use Rattle.nc_text.specs.MarkedText.{MarkedText, with_span, without_marks}
use Rattle.nc_text.proofs.Offered.{closed_with_stops, length-with_span}
use Rattle.nc_list.specs.declared.chunk.Chunk.{Chunk}
use Rattle.nc_gens.specs.Seen.{least_number}
use Rattle.nc_acts.specs.Chunks.{HasGoodSpan}
use Rattle.nc_region.specs.Deletion.{is_due, freed, kept, unmarked, IsDeleted, IsReclaimed}
use Rattle.nc_region.specs.Patch.{IsPatch, IsPatched, AreBytesOf}
use Rattle.nc_region.specs.Region.{Region, IsLive, IsRegion, IsCreated}
use Rattle.nc_region.proofs.Offered.{due_dead, listed_there, region_deleted, region_freed, changed}
use Rattle.nc_base.proofs.Offered.{each_get}
use Rattle.nc_acts.proofs.Offered.{same_code}
use Rattle.nc_text.proofs.Offered.{place_of, Before, Within, Behind, span_before, span_behind, span_within}
use Rattle.nc_acts.proofs.Offered.{before_span}
use Rattle.nc_histories.proofs.Creation.{created_region}
use Rattle.nc_histories.proofs.Good.{text_of}
use Rattle.nc_histories.proofs.Patching.{patch_keeps_region, patch_can, patch_ends}

-- after a creation the region is still one (`IsRegion`)
pub still_created : (old new : Region) (v : MarkedChunk) → IsRegion old.marked old.chunks → IsValid v
    → v.limit ≡ limit_of old.marked.bytes → IsCreated old new v → IsRegion new.marked new.chunks
still_created old new v region valid limit is =
    let same : new.marked ≡ text_of (with_span old.marked.bytes (v.base - 65536) v.code) (with_span old.marked.marks (v.base - 65536) v.marks) =
    same_code new.marked
    (text_of (with_span old.marked.bytes (v.base - 65536) v.code) (with_span old.marked.marks (v.base - 65536) v.marks)) is.bytes is.marks in
    subst (λ (m : MarkedText). IsRegion m new.chunks) (sym same)
    (subst (IsRegion (text_of (with_span old.marked.bytes (v.base - 65536) v.code) (with_span old.marked.marks (v.base - 65536) v.marks)))
    (sym is.chunks.2) (created_region old.marked old.chunks v is.chunks.0 region valid limit is.chunks.1))

-- after a patch the region is still one (`IsRegion`)
pub still_patched : (old new : Region) (at : ℕ) (bytes : List ℕ) (news : List Piece) → IsRegion old.marked old.chunks
    → IsPatch old at bytes → AreBytesOf bytes news → IsPatched old new at bytes → IsRegion new.marked new.chunks
still_patched old new at bytes news region lawful b is =
    let held = lawful.1.1 in
    let patch = patch_can old at bytes lawful in
    let ends = patch_ends old at bytes region lawful in
    let same : new.marked ≡ changed old.marked at bytes =
    same_code new.marked (changed old.marked at bytes) is.patched (ap (λ (r : Region). r.marked.marks) is.others) in
    subst (λ (m : MarkedText). IsRegion m new.chunks) (sym same)
    (subst (IsRegion (changed old.marked at bytes)) (sym (ap (λ (r : Region). r.chunks) is.others))
    (patch_keeps_region news old.marked old.chunks lawful.1.0 at bytes region held.0 held.1 held.2.0 patch b ends))

-- a text in which a whole span is stops is closed
stopped_closed : (marked : MarkedText) (base len : ℕ) → IsClosed marked.bytes marked.marks
    → HasGoodSpan base (limit_of marked.bytes) len
    → IsClosed (with_span marked.bytes (base - 65536) (replicate len 244)) marked.marks
stopped_closed marked base len closed placed =
    let n = length-replicate {A = ℕ} len 244 in
    let fits : base + length (replicate {A = ℕ} len 244) ≤ 65536 + length marked.bytes = omega (arith, n, placed.high) in
    closed_with_stops marked.bytes (with_span marked.bytes (base - 65536) (replicate len 244)) marked.marks closed
    (length-with_span marked.bytes (base - 65536) (replicate len 244) (omega (arith, fits, placed.low)))
    (λ now m.
    elim (place_of base len now.place) [
      | Before l ↦ inr (λ i is inside k lt.
          span_before marked.bytes base (replicate len 244) (now.place + k) 0 placed.low fits (omega (arith, m.0))
          (before_span now.place i.len k base inside lt placed.start l))
      | Within a b ↦ inl
          (span_within marked.bytes base (replicate len 244) now.place 0 placed.low fits a (omega (arith, b, n))
          ∙ get_or-replicate len (now.place - base) 244 0 (omega arith))
      | Behind p ↦ inr (λ i is inside k lt.
          span_behind marked.bytes base (replicate len 244) (now.place + k) 0 placed.low fits (omega (arith, p, n)))
    ])

-- after a deletion the region is still one (`IsRegion`)
pub still_deleted : (old new : Region) (base stamp : ℕ) → IsRegion old.marked old.chunks → IsDeleted old new base stamp
    → IsRegion new.marked new.chunks
still_deleted old new base stamp region is =
    let c = is.chunk in
    let there = listed_there old.chunks is.index is.chunk is.listed in
    let placed : HasGoodSpan is.chunk.base (limit_of old.marked.bytes) is.chunk.length =
    subst (λ (d : Chunk). HasGoodSpan d.base (limit_of old.marked.bytes) d.length) there.1
    (each_get (λ (d : Chunk). HasGoodSpan d.base (limit_of old.marked.bytes) d.length) old.chunks is.index is.chunk there.0 region.placed) in
    let bytes : new.marked.bytes ≡ with_span old.marked.bytes (is.chunk.base - 65536) (replicate is.chunk.length 244) =
    is.bytes ∙ ap (λ (b : ℕ). with_span old.marked.bytes (b - 65536) (replicate is.chunk.length 244)) (sym is.base_is) in
    let marks : new.marked.marks ≡ old.marked.marks = ap (λ (r : Region). r.marked.marks) is.others in
    let long : length new.marked.bytes ≡ length old.marked.bytes = ap (λ (z : List ℕ). length z) bytes
    ∙ length-with_span old.marked.bytes (is.chunk.base - 65536) (replicate is.chunk.length 244)
    (omega (arith, length-replicate {A = ℕ} is.chunk.length 244, placed.low, placed.high)) in
    subst (IsRegion new.marked) (sym is.chunks)
    (region_deleted old.marked new.marked old.chunks is.index is.chunk stamp
    (record {
      region = region;
      inside = there.0;
      here = there.1;
      live = subst IsLive (sym is.live) tt;
      whole = record {
        lawful = subst IsLawfulLimit (ap (λ (z : ℕ). 65536 + z) (sym long)) region.whole.lawful;
        as_long = ap (λ z. length z) marks ∙ (region.whole.as_long ∙ sym long);
        closed = subst (λ (z : List ℕ). IsClosed z new.marked.marks) (sym bytes)
            (subst (IsClosed (with_span old.marked.bytes (is.chunk.base - 65536) (replicate is.chunk.length 244))) (sym marks)
            (stopped_closed old.marked is.chunk.base is.chunk.length region.whole.closed placed));
      };
      bytes_are = bytes;
      marks_are = marks;
    }))

-- the chunks that are due are unmarked, one after the other
unmarked_region : (least : ℕ) (rest done : List Chunk) (marked : MarkedText) → IsRegion marked (done ++ rest)
    → IsRegion (unmarked marked (freed least rest)) (done ++ kept least rest)
unmarked_region least [] done marked region = region
unmarked_region least (c ∷ rest) done marked region =
    go (is_due least c.state) refl (unmarked_region least rest done (without_marks marked c.base c.length))
    (subst (λ (z : List Chunk). IsRegion (unmarked marked (freed least rest)) z) (append_assoc done (c ∷ []) (kept least rest))
    (unmarked_region least rest (done ++ c ∷ []) marked (subst (IsRegion marked) (sym (append_assoc done (c ∷ []) rest)) region)))
  where
    go : (b : Bool) → is_due least c.state ≡ b
        → (IsRegion (without_marks marked c.base c.length) (done ++ rest)
        → IsRegion (unmarked (without_marks marked c.base c.length) (freed least rest)) (done ++ kept least rest))
        → IsRegion (unmarked marked (freed least rest)) (done ++ c ∷ kept least rest)
        → IsRegion (unmarked marked (cond b (c ∷ freed least rest) (freed least rest)))
        (done ++ cond (not b) (c ∷ kept least rest) (kept least rest))
    go true is free stay = free (region_freed marked done rest c region (due_dead least c.state is))
    go false is free stay = stay

-- after a reclaim the region is still one (`IsRegion`)
pub still_reclaimed : (old new : Region) (count : ℕ) → IsRegion old.marked old.chunks → IsReclaimed old new count
    → IsRegion new.marked new.chunks
still_reclaimed old new count region is =
    subst (λ (m : MarkedText). IsRegion m new.chunks) (sym is.marked)
    (subst (IsRegion (unmarked old.marked (freed (least_number new.keeper.numbers) old.chunks))) (sym is.chunks)
    (unmarked_region (least_number new.keeper.numbers) old.chunks [] old.marked region))
