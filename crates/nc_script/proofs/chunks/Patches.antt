-- A patch of a region's chunk is a patch of the script's, and the other way round.
use Rattle.std.proofs.Common.{◌≡◌, ℕ, ◌+◌, ◌-◌, ◌<◌, List, length, get_or, map, refl, sym, ap, ◌∙◌, subst, arith}
use Rattle.std.specs.Prelude.{Contains}
use Rattle.std.proofs.lemmas.List.{ext_get_or}
use Rattle.nc_vet.specs.Chunk.{Piece, place, IsValid, IsTarget}
use Rattle.nc_vet.specs.Chunk as vet
use Rattle.nc_vet.proofs.Offered.{same_pieces}
use Rattle.nc_text.specs.Places.{limit_of}
use Rattle.nc_list.specs.declared.chunk.Chunk.{Chunk}
use Rattle.nc_list.specs.declared.chunk.ChunkState.{ChunkState}
use Rattle.nc_list.specs.declared.chunk.ChunkState.TheVariants.{Live, Retired}
use Rattle.nc_region.specs.Region.{Region, IsRegion, HoldsValid, IsLive}
use Rattle.nc_region.specs.Patch as region
use Rattle.nc_region.specs.Patch.{IsHeldBy, IsRun, GoWell}
use Rattle.nc_base.proofs.Offered.{each_contains}
use Rattle.nc_region.specs.declared.fault.ModifyFault.{ModifyFault}
use Rattle.nc_region.specs.declared.fault.ModifyFault.TheVariants.{BadSpan, NotLive, NotPermitted, Boundaries, PairTouched, BadTarget}
use Rattle.nc_script.specs.Script as script
use Rattle.nc_script.specs.Script.{ScriptSeat}
use Rattle.nc_script.specs.Patching.{HoldsPlace, Replaces, IsLawfulPatch, IsRefusedPatch}
use Rattle.nc_script.specs.machinery.Session.{bytes_at, state_in, script_chunk, script_of}
use Rattle.nc_script.proofs.chunks.RegionText.{length-bytes_at, get_or-bytes_at}
use Rattle.nc_script.proofs.chunks.Listed.{listed_map, listed_unmap}

-- a live chunk is shown with its bytes
shown_live : (bytes : List ℕ) (base len : ℕ) (s : ChunkState) → IsLive s → state_in bytes base len s
    ≡ script.Live (bytes_at bytes base len)
shown_live bytes base len Live live = refl
shown_live bytes base len (Retired stamp) live = absurd live

-- a chunk that is shown with bytes is live, and has them
live_shown : (bytes : List ℕ) (base len : ℕ) (s : ChunkState) (code : List ℕ) → state_in bytes base len s ≡ script.Live code
    → IsLive s × (bytes_at bytes base len ≡ code)
live_shown bytes base len Live code e = (tt, cc)
live_shown bytes base len (Retired stamp) code e = absurd cc

-- a valid chunk by other names of its parts
abbrev valid_as : (v : vet.MarkedChunk) (h : IsValid v) (base limit : ℕ) (code : List ℕ) → v.base ≡ base → v.limit ≡ limit → v.code ≡ code
    → IsValid (record { base = base; limit = limit; code = code; marks = v.marks })
valid_as v h base limit code b l c = record {
  base_is = subst vet.IsBase b h.base_is;
  length_is = subst (λ (bs : List ℕ). vet.IsLength (length bs)) c h.length_is;
  range = subst (λ (x : ℕ). vet.IsInRange x limit (length code)) b
      (subst (λ (x : ℕ). vet.IsInRange v.base x (length code)) l
      (subst (λ (bs : List ℕ). vet.IsInRange v.base v.limit (length bs)) c h.range));
  pieces = h.pieces;
  parts = sym c ∙ h.parts;
  sound = h.sound;
  targets = subst (λ (x : ℕ). vet.AreTargets x limit h.pieces) b (subst (λ (x : ℕ). vet.AreTargets v.base x h.pieces) l h.targets);
  marks_are = h.marks_are;
}

module _ (r : Region) (is : IsRegion r.marked r.chunks) (seats : List ScriptSeat) (freed : ℕ) where
  -- the region's bytes
  abbrev bytes : List ℕ
  bytes = r.marked.bytes

  -- the script's state that the region stands for
  abbrev state : script.Script
  state = script_of r seats freed

  -- a live chunk's code stands in its span
  code_is : (c : Chunk) → Contains r.chunks c → (h : HoldsValid r.marked c) → h.vetted.code ≡ bytes_at bytes c.base c.length
  code_is c listed h =
      let placed = each_contains _ r.chunks c is.placed listed in
      let long = length-bytes_at bytes c.base c.length placed.low (omega (arith, placed.high)) in
      ext_get_or 0 h.vetted.code (bytes_at bytes c.base c.length) (h.long ∙ sym long)
      (λ k l.
      let at = c.base + k in
      let here : at - c.base ≡ k = omega arith in
      let inside : at < c.base + c.length = omega (arith, l, h.long) in
      ap (λ (i : ℕ). get_or h.vetted.code i 0) (sym here)
      ∙ sym (h.bytes_are at (omega arith, inside))
      ∙ sym (get_or-bytes_at bytes c.base c.length at placed.low (omega arith) inside)
      ∙ ap (λ (i : ℕ). get_or (bytes_at bytes c.base c.length) i 0) here)

  -- a place that a live chunk of the region has, the script's chunk has
  holds_of : (at : ℕ) (c : Chunk) → IsHeldBy r.chunks at c → HoldsPlace state.chunks at c.base (bytes_at bytes c.base c.length)
  holds_of at c held =
      let placed = each_contains _ r.chunks c is.placed held.0 in
      record {
        listed = subst (λ (s : script.ScriptChunkState). Contains (map (script_chunk bytes) r.chunks) (record { base = c.base; state = s }))
            (shown_live bytes c.base c.length c.state held.1) (listed_map (script_chunk bytes) r.chunks c held.0);
        from = held.2.0;
        to = omega (arith, held.2.1, length-bytes_at bytes c.base c.length placed.low (omega (arith, placed.high)));
      }

  -- a place that the script's chunk has, a live chunk of the region has
  held_of : (at base : ℕ) (code : List ℕ) → HoldsPlace state.chunks at base code
      → (c : Chunk) × IsHeldBy r.chunks at c × (c.base ≡ base) × (bytes_at bytes c.base c.length ≡ code)
  held_of at base code h =
      let found = listed_unmap (script_chunk bytes) r.chunks _ h.listed in
      let c = found.0 in
      let placed = each_contains _ r.chunks c is.placed found.1 in
      let base_is : c.base ≡ base = ap (λ (x : script.ScriptChunk). x.base) found.2 in
      let shown = live_shown bytes c.base c.length c.state code (ap (λ (x : script.ScriptChunk). x.state) found.2) in
      let long = length-bytes_at bytes c.base c.length placed.low (omega (arith, placed.high)) in
      let same = ap (λ (xs : List ℕ). length xs) shown.1 in
      (c, (found.1, shown.0, (omega (arith, h.from, base_is), omega (arith, h.to, base_is, long, same))), base_is, shown.1)

  -- a run of the region's chunk is one of the script's
  abbrev replaces_of : (at : ℕ) (new : List ℕ) (c : Chunk) → IsHeldBy r.chunks at c → IsRun r.marked c at new → Replaces state at new
  replaces_of at new c held run = record {
    base = c.base;
    bytes = bytes_at bytes c.base c.length;
    holds = holds_of at c held;
    marks = run.holds.vetted.marks;
    valid = valid_as run.holds.vetted run.holds.valid c.base (limit_of bytes) (bytes_at bytes c.base c.length) run.holds.base_is
        run.holds.limit_is (code_is c held.0 run.holds);
    run = run.run;
  }

  -- the chunk that the script's run is of
  abbrev chunk_of : (at : ℕ) (new : List ℕ) (s : Replaces state at new) → (c : Chunk) × IsHeldBy r.chunks at c × (c.base ≡ s.base)
      × (bytes_at bytes c.base c.length ≡ s.bytes)
  chunk_of at new s = held_of at s.base s.bytes s.holds

  -- the region's text holds a valid chunk where the script's run is
  abbrev valid_of : (at : ℕ) (new : List ℕ) (s : Replaces state at new) → HoldsValid r.marked (chunk_of at new s).0
  valid_of at new s =
      let found = chunk_of at new s in
      each_contains (λ (c : Chunk). IsLive c.state → HoldsValid r.marked c) r.chunks found.0 is.live found.1.0 found.1.1

  -- the chunk that the script's run is of has the same instructions in the region
  same_of : (at : ℕ) (new : List ℕ) (s : Replaces state at new) → (valid_of at new s).valid.pieces ≡ s.valid.pieces
  same_of at new s =
      let found = chunk_of at new s in
      let h = valid_of at new s in
      same_pieces h.valid.pieces s.valid.pieces h.valid.sound.spelled s.valid.sound.spelled
      (sym h.valid.parts ∙ (code_is found.0 found.1.0 h ∙ (found.3 ∙ s.valid.parts)))

  -- a run of the script's chunk is one of the region's
  abbrev run_of : (at : ℕ) (new : List ℕ) (s : Replaces state at new) → IsRun r.marked (chunk_of at new s).0 at new
  run_of at new s = record {
    holds = valid_of at new s;
    run = record {
      before = s.run.before;
      old = s.run.old;
      after = s.run.after;
      parts = same_of at new s ∙ s.run.parts;
      here = ap (λ (b : ℕ). b + place s.run.before) (chunk_of at new s).2 ∙ s.run.here;
      news = s.run.news;
      bytes = s.run.bytes;
      as_long = s.run.as_long;
    };
  }

  -- targets that are good for the script's chunk are good for the region's
  targets_of : (at : ℕ) (new : List ℕ) (s : Replaces state at new) → GoWell (IsTarget s.base (limit_of bytes) s.valid.pieces) at s.run.news
      → GoWell (IsTarget (chunk_of at new s).0.base (limit_of bytes) (valid_of at new s).valid.pieces) at s.run.news
  targets_of at new s good =
      subst (λ (b : ℕ). GoWell (IsTarget b (limit_of bytes) (valid_of at new s).valid.pieces) at s.run.news) (sym (chunk_of at new s).2)
      (subst (λ (ps : List Piece). GoWell (IsTarget s.base (limit_of bytes) ps) at s.run.news) (sym (same_of at new s)) good)

  -- a lawful patch of the region is one of the script
  pub lawful_of : (at : ℕ) (new : List ℕ) → region.IsPatch r at new → IsLawfulPatch state at new
  lawful_of at new p = (p.0, (replaces_of at new p.1.0 p.1.1 p.1.2.0, p.1.2.1, p.1.2.2))

  -- a refused patch of the region is one of the script
  pub refused_of : (at : ℕ) (new : List ℕ) (fault : ModifyFault) → region.MayRefusePatch r at new fault → IsRefusedPatch state at new fault
  refused_of at new BadSpan h = h
  refused_of at new NotLive h = (h.0, λ held. let found = held_of at held.0 held.1 held.2 in h.1 (found.0, found.1))
  refused_of at new NotPermitted h = (h.0, (h.1.0.base, bytes_at bytes h.1.0.base h.1.0.length, holds_of at h.1.0 h.1.1), h.2)
  refused_of at new Boundaries h = (
    h.0,
    (h.1.0.base, bytes_at bytes h.1.0.base h.1.0.length, holds_of at h.1.0 h.1.1),
    h.2,
    λ s. h.3 ((chunk_of at new s).0, (chunk_of at new s).1, run_of at new s),
  )
  refused_of at new PairTouched h = (
    h.0,
    replaces_of at new h.1.0 h.1.1 h.1.2,
    λ s. h.2 ((chunk_of at new s.0).0, (chunk_of at new s.0).1, (run_of at new s.0, s.1)),
  )
  refused_of at new BadTarget h = (
    h.0,
    (replaces_of at new h.1.0 h.1.1 h.1.2.0, h.1.2.1),
    λ s. h.2 (s.0, ((chunk_of at new s.1.0).0, (chunk_of at new s.1.0).1, (run_of at new s.1.0, s.1.1, targets_of at new s.1.0 s.1.2))),
  )
