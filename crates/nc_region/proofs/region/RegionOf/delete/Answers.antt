use Rattle.std.proofs.Common.{◌≡◌, ℕ, ◌-◌, ◌<◌, List, set, replicate, Contains, Some, sym, subst, ap, ◌∙◌, refl, arith}
use Rattle.std.proofs.lemmas.Grind.{elements, common_steps}
use Rattle.std.proofs.lemmas.Option.{slice_get-get_or}
use Rattle.nc_text.specs.Places.{limit_of}
use Rattle.nc_text.proofs.Offered.{confined_if_closed}
use Rattle.nc_text.specs.MarkedText.{with_span}
use Rattle.nc_list.specs.declared.chunk.Chunk.{Chunk}
use Rattle.nc_list.specs.declared.chunk.ChunkState.TheVariants.{Retired}
use Rattle.nc_list.specs.Chunks.{IsRetired}
use Rattle.nc_base.proofs.Offered.{each_map, each_contains}
use Rattle.nc_base.specs.Each.{Each}
use Rattle.nc_region.specs.Region.{Region, IsLive, IsAscending}
use Rattle.nc_acts.specs.Chunks.{HasGoodSpan}
use Rattle.nc_region.proofs.chunks.ReadyPlaces.{ready_held, ready_set}
use Rattle.nc_region.proofs.deleting.Deleted.{retired_set, deleted_is, region_deleted}
use Rattle.nc_region.proofs.RegionParts.{region_of}
use Rattle.nc_region.proofs.region.RegionOf.delete.Goals as goal

pub live_place-requires-clause-some : goal.live_place-requires-clause-some
live_place-requires-clause-some g c = grind (arith, elements)

pub returns-in_default-clause-confined : goal.returns-in_default-clause-confined
returns-in_default-clause-confined g c = rw (← c.self.view_is) (confined_if_closed _ _ c.self.invariant.0.whole.closed)

pub returns-then-generation-ge-LAST_GENERATION-clause-confined : goal.returns-then-generation-ge-LAST_GENERATION-clause-confined
returns-then-generation-ge-LAST_GENERATION-clause-confined g c =
    rw (← c.self.view_is) (confined_if_closed _ _ c.self.invariant.0.whole.closed)

pub returns-then-generation-ge-LAST_GENERATION-clause-refused : goal.returns-then-generation-ge-LAST_GENERATION-clause-refused
returns-then-generation-ge-LAST_GENERATION-clause-refused g c =
    let f = c.in-Some.ensures.some in
    rw (← c.self.view_is) (
      (c.in-Some.chunk, f.0, subst IsLive (sym f.1) tt, f.2),
      omega (arith, c.generation.ensures.generation, c.generation.ensures.in_range, c.if-generation-ge-LAST_GENERATION.true),
    )

pub put_stops-stamp-requires-clause-placed : goal.put_stops-stamp-requires-clause-placed
put_stops-stamp-requires-clause-placed g c =
    let chunk : Chunk = c.in-Some.chunk in
    let f = c.in-Some.ensures.some in
    let limit = limit_of (g.A.Acts.marked c.self.inside.acts).bytes in
    subst (λ (b : ℕ). HasGoodSpan b limit chunk.length) f.2
    (each_contains (λ (d : Chunk). HasGoodSpan d.base limit d.length) c.self.inside.chunks chunk c.self.invariant.0.placed f.0)

pub put_stops-stamp-requires-clause-ready : goal.put_stops-stamp-requires-clause-ready
put_stops-stamp-requires-clause-ready g c =
    let f = c.in-Some.ensures.some in
    rw (← f.2) (ready_held (g.A.Acts.made c.self.inside.acts) c.self.inside.chunks c.in-Some.chunk c.self.invariant.1 f.0)

pub retire-requires-clause-ascending : goal.retire-requires-clause-ascending
retire-requires-clause-ascending g c = grind (arith, common_steps)

pub retire-requires-clause-base : goal.retire-requires-clause-base
retire-requires-clause-base g c =
    let f = c.in-Some.ensures.some in
    let placed = each_contains (λ (d : Chunk). HasGoodSpan d.base (limit_of (g.A.Acts.marked c.self.inside.acts).bytes) d.length)
    c.self.inside.chunks c.in-Some.chunk c.self.invariant.0.placed f.0 in
    (c.in-Some.chunk, f.0, f.2, placed.some)

-- the list with the chunk retired
listed : (chunks new : List Chunk) (base limit stamp : ℕ) (c : Chunk) (has : Contains chunks c) → IsAscending 65536 chunks
    → Each (λ (d : Chunk). HasGoodSpan d.base limit d.length) chunks → c.base ≡ base → IsRetired chunks new base stamp
    → new ≡ set chunks has.0 (record c { state = Retired stamp })
listed chunks new base limit stamp c has ascending placed base_is retired =
    retired_set chunks new has.0 base stamp c ascending
    (each_map (λ (d : Chunk). HasGoodSpan d.base limit d.length) (λ (d : Chunk). 0 < d.length) (λ d p. p.some) chunks placed) has.1 has.2
    base_is retired

pub invariant_of-self : goal.invariant_of-self
invariant_of-self g c =
    let chunk : Chunk = c.in-Some.chunk in
    let f = c.in-Some.ensures.some in
    let chunks = c.self.inside.chunks in
    let old = g.A.Acts.marked c.self.inside.acts in
    let list = listed chunks c.retire.new.self c.args.base (limit_of old.bytes) c.put_stops-stamp.result chunk f.0
    c.self.invariant.0.ascending c.self.invariant.0.placed f.2 c.retire.ensures in
    let region = region_deleted old (g.A.Acts.marked c.put_stops-stamp.new.acts) chunks f.0.0 chunk c.put_stops-stamp.result
    (record {
      region = c.self.invariant.0;
      inside = f.0.1;
      here = f.0.2;
      live = subst IsLive (sym f.1) tt;
      whole = c.put_stops-stamp.ensures.whole;
      bytes_are = c.put_stops-stamp.ensures.bytes
          ∙ ap (λ (b : ℕ). with_span old.bytes (b - 65536) (replicate chunk.length 244)) (sym f.2);
      marks_are = c.put_stops-stamp.ensures.marks;
    }) in
    rw (list, c.put_stops-stamp.ensures.made) (
      region,
      ready_set (g.A.Acts.made c.self.inside.acts) chunks f.0.0 (record chunk { state = Retired c.put_stops-stamp.result }) c.self.invariant.1
          (ready_held (g.A.Acts.made c.self.inside.acts) chunks chunk c.self.invariant.1 f.0),
    )

pub returns-clause-deleted : goal.returns-clause-deleted
returns-clause-deleted g c =
    let chunk : Chunk = c.in-Some.chunk in
    let f = c.in-Some.ensures.some in
    let chunks = c.self.inside.chunks in
    let old : Region = region_of (g.A.Acts.marked c.self.inside.acts) (g.A.Acts.made c.self.inside.acts) chunks
    (g.A.Acts.keeper c.self.inside.acts) (g.A.Acts.logged c.self.inside.acts) in
    let new : Region = region_of (g.A.Acts.marked c.put_stops-stamp.new.acts) (g.A.Acts.made c.put_stops-stamp.new.acts) c.retire.new.self
    (g.A.Acts.keeper c.put_stops-stamp.new.acts) (g.A.Acts.logged c.put_stops-stamp.new.acts) in
    rw (← c.self.view_is)
    (deleted_is old new f.0.0 c.args.base c.put_stops-stamp.result chunk
    (slice_get-get_or chunks f.0.0 chunk f.0.1 ∙ ap Some f.0.2) f.1 f.2
    (omega (arith, c.generation.ensures.generation, c.if-generation-ge-LAST_GENERATION.false))
    c.put_stops-stamp.ensures.stamp c.put_stops-stamp.ensures.bytes c.put_stops-stamp.ensures.marks
    c.put_stops-stamp.ensures.made
    (listed chunks c.retire.new.self c.args.base (limit_of old.marked.bytes) c.put_stops-stamp.result chunk f.0
    c.self.invariant.0.ascending c.self.invariant.0.placed f.2 c.retire.ensures)
    c.put_stops-stamp.ensures.keeper c.put_stops-stamp.ensures.log)

pub returns-clause-confined : goal.returns-clause-confined
returns-clause-confined g c = confined_if_closed _ _ c.put_stops-stamp.ensures.whole.closed

pub returns-in_default-clause-deleted : goal.returns-in_default-clause-deleted
returns-in_default-clause-deleted g c = tt

pub returns-in_default-clause-unchanged : goal.returns-in_default-clause-unchanged
returns-in_default-clause-unchanged g c = refl

pub returns-in_default-clause-refused : goal.returns-in_default-clause-refused
returns-in_default-clause-refused g c = rw (← c.self.view_is) c.in_default.ensures.none

pub returns-then-generation-ge-LAST_GENERATION-clause-deleted : goal.returns-then-generation-ge-LAST_GENERATION-clause-deleted
returns-then-generation-ge-LAST_GENERATION-clause-deleted g c = tt

pub returns-then-generation-ge-LAST_GENERATION-clause-unchanged : goal.returns-then-generation-ge-LAST_GENERATION-clause-unchanged
returns-then-generation-ge-LAST_GENERATION-clause-unchanged g c = refl

pub put_stops-stamp-requires-clause-whole : goal.put_stops-stamp-requires-clause-whole
put_stops-stamp-requires-clause-whole g c = c.self.invariant.0.whole

pub put_stops-stamp-requires-clause-room : goal.put_stops-stamp-requires-clause-room
put_stops-stamp-requires-clause-room g c = omega (arith, c.generation.ensures.generation, c.if-generation-ge-LAST_GENERATION.false)

pub returns-clause-unchanged : goal.returns-clause-unchanged
returns-clause-unchanged g c = tt

pub returns-clause-refused : goal.returns-clause-refused
returns-clause-refused g c = tt
