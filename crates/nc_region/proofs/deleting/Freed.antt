-- A region stays one when a retired chunk of it is unmarked and leaves the list.
use Rattle.std.proofs.Common.{ℕ, ◌+◌, ◌≤◌, List, [], ◌∷◌, ◌++◌, inl, inr, arith, refl, ◌∙◌}
use Rattle.nc_text.specs.Places.{limit_of}
use Rattle.nc_text.specs.MarkedText.{MarkedText, without_marks}
use Rattle.nc_list.specs.declared.chunk.Chunk.{Chunk}
use Rattle.nc_base.proofs.Offered.{each_map, each_both, each_middle, each_out, each_in}
use Rattle.nc_list.proofs.Offered.{ascending_lower, ascending_above}
use Rattle.nc_acts.specs.Chunks.{HasGoodSpan}
use Rattle.nc_base.specs.Each.{Each}
use Rattle.nc_region.specs.Quiet.{RetiredSpan, IsQuiet}
use Rattle.nc_region.specs.Region.{IsLive, IsInChunk, IsAscending, HoldsValid, IsRegion}
use Rattle.nc_region.proofs.chunks.AgreesOutside.{AgreesOutside, LiesBeside, still_holds}
use Rattle.nc_region.proofs.events.Unmarking.{shut_if_quiet, MayFree, freed_within, freed_before, freed_behind, freed_long, freed_closed}
use Rattle.nc_region.proofs.deleting.QuietSpans.{quiet_chunks}
use Rattle.nc_text.proofs.Offered.{place_of, Before, Within, Behind}

-- a list is ascending without one of its chunks
ascending_without : (from : ℕ) (before after : List Chunk) (c : Chunk) → IsAscending from (before ++ c ∷ after)
    → IsAscending from (before ++ after)
ascending_without from [] after c ascending = ascending_lower from (c.base + c.length) after (omega (arith, ascending.0)) ascending.1
ascending_without from (b ∷ before) after c ascending = (ascending.0, ascending_without (b.base + b.length) before after c ascending.1)

-- in an ascending list the other chunks lie beside each one
lie_beside : (from : ℕ) (before after : List Chunk) (c : Chunk) → IsAscending from (before ++ c ∷ after)
    → Each (LiesBeside c) (before ++ after)
lie_beside from [] after c ascending = each_map (λ (d : Chunk). c.base + c.length ≤ d.base) (LiesBeside c) (λ d h. inr h) after
    (ascending_above (c.base + c.length) after ascending.1)
lie_beside from (b ∷ before) after c ascending = (
  inl (each_middle (λ (d : Chunk). b.base + b.length ≤ d.base) before after c
      (ascending_above (b.base + b.length) (before ++ c ∷ after) ascending.1)),
  lie_beside (b.base + b.length) before after c ascending.1,
)

-- the span of a chunk
abbrev pub span_of : Chunk → RetiredSpan
span_of c = record { base = c.base; length = c.length; stamp = 0 }

-- a retired chunk's span is quiet
pub dead_is_quiet : (marked : MarkedText) (before after : List Chunk) (c : Chunk) → IsRegion marked (before ++ c ∷ after)
    → (IsLive c.state → ⊥) → IsQuiet marked.bytes marked.marks (span_of c)
dead_is_quiet marked before after c region dead =
    each_middle (λ (d : Chunk). (IsLive d.state → ⊥) → (stamp : ℕ)
    → IsQuiet marked.bytes marked.marks (record { base = d.base; length = d.length; stamp = stamp })) before after c
    (quiet_chunks marked (before ++ c ∷ after) region) dead 0

-- a retired chunk's span may be freed
pub frees : (marked : MarkedText) (before after : List Chunk) (c : Chunk) → IsRegion marked (before ++ c ∷ after) → (IsLive c.state → ⊥)
    → MayFree marked (span_of c)
frees marked before after c region dead =
    record {
      as_long = region.whole.as_long;
      closed = region.whole.closed;
      whole =
          let placed = each_middle (λ (d : Chunk). HasGoodSpan d.base (limit_of marked.bytes) d.length) before after c region.placed in
          record { start = placed.start; bundles = placed.whole; low = placed.low; high = omega (arith, placed.high) };
      shut = shut_if_quiet marked.bytes marked.marks (span_of c) (dead_is_quiet marked before after c region dead);
    }

-- outside the freed chunk's span nothing is changed
agrees : (marked : MarkedText) (c : Chunk) → MayFree marked (span_of c)
    → AgreesOutside marked (without_marks marked c.base c.length) c.base c.length
agrees marked c f =
    record {
      as_long = refl;
      bytes = λ at low out. refl;
      marks = λ at low out. elim out [
        | inl l ↦ freed_before marked (span_of c) at f low l
        | inr b ↦
            freed_behind marked (span_of c) at f b
      ];
    }

-- the region without the chunk
pub region_freed : (marked : MarkedText) (before after : List Chunk) (c : Chunk) → IsRegion marked (before ++ c ∷ after)
    → (IsLive c.state → ⊥) → IsRegion (without_marks marked c.base c.length) (before ++ after)
region_freed marked before after c region dead =
    let f = frees marked before after c region dead in
    let a = agrees marked c f in
    record {
      whole = record {
        lawful = region.whole.lawful;
        as_long = freed_long marked (span_of c) f ∙ region.whole.as_long;
        closed =
            freed_closed marked (span_of c) f;
      };
      ascending = ascending_without 65536 before after c region.ascending;
      placed = each_out (λ (d : Chunk). HasGoodSpan d.base (limit_of marked.bytes) d.length) before after c region.placed;
      live =
          each_both (LiesBeside c) (λ (d : Chunk). IsLive d.state → HoldsValid marked d) (λ (d : Chunk). IsLive d.state
          → HoldsValid (without_marks marked c.base c.length) d)
          (λ d apart holds live. still_holds marked (without_marks marked c.base c.length) c d a apart (holds live)) (before ++ after)
          (lie_beside 65536 before after c region.ascending)
          (each_out (λ (d : Chunk). IsLive d.state → HoldsValid marked d) before after c region.live);
      stops = λ at inside free. region.stops at inside
          (each_in (λ (d : Chunk). IsLive d.state → IsInChunk d at → ⊥) before after c free (λ live in_c. dead live));
      unused = λ at inside free.
          elim (place_of c.base c.length at) [
            | Before l ↦ freed_before marked (span_of c) at f inside.0 l
                ∙ region.unused at inside
                (each_in (λ (d : Chunk). IsInChunk d at → ⊥) before after c free (λ in_c. omega (arith, l, in_c.0)))
            | Within low high ↦ freed_within marked (span_of c) at f low high
            | Behind b ↦ freed_behind marked (span_of c) at f b
                ∙ region.unused at inside
                (each_in (λ (d : Chunk). IsInChunk d at → ⊥) before after c free (λ in_c. omega (arith, b, in_c.1)))
          ];
    }
