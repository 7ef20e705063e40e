use Rattle.std.proofs.Common.{Option, IfSome, sym, ap, subst, ◌∙◌, arith}
use Rattle.std.proofs.lemmas.Grind.{common_steps}
use Rattle.nc_list.specs.declared.chunk.Chunk.{Chunk}
use Rattle.nc_list.specs.Chunks.{IsNextChunk}
use Rattle.nc_list.proofs.Offered.{ascending_lower}
use Rattle.nc_region.specs.Region.{IsLive}
use Rattle.nc_region.proofs.chunks.Ascending.{next_contained, only_next}
use Rattle.nc_region.proofs.patching.Runs.{live_is_held}
use Rattle.nc_region.proofs.listing.live_place.Goals as goal
use Rattle.nc_region.proofs.listing.live_place.Goals.{else-is_live-via-then-is_live+else-chunk-base, else-is_live-via-else-is_live}

pub find-next-requires : goal.find-next-requires
find-next-requires c = ascending_lower 0 65536 c.args.chunks.now (omega arith) c.requires.ascending

pub returns-in_default-clause-none : goal.returns-in_default-clause-none
returns-in_default-clause-none c = grind (arith, common_steps)

pub returns-then-chunk-base-clause-some : goal.returns-then-chunk-base-clause-some
returns-then-chunk-base-clause-some c = (
  next_contained c.args.base c.args.chunks.now c.in-Some.chunk (subst (λ (o : Option Chunk). IfSome o (IsNextChunk c.args.chunks.now c.args.base)) c.in-Some.is c.find-next.ensures.found),
  c.is_live.ensures.live c.if-is_live.true,
  c.if-chunk-base.true,
)

pub returns-else-is_live-clause-none : goal.returns-else-is_live-clause-none
returns-else-is_live-clause-none c = λ has.
    let h = live_is_held c.args.chunks.now c.args.base c.requires.some has in
    let same = only_next c.args.base c.args.chunks.now c.in-Some.chunk h.0 c.requires.ascending (subst (λ (o : Option Chunk). IfSome o (IsNextChunk c.args.chunks.now c.args.base)) c.in-Some.is c.find-next.ensures.found) h.1.0 h.1.2 in
    elim c.else-is_live.branch [
      | else-is_live-via-then-is_live+else-chunk-base w ↦ w.if-chunk-base.false (sym (ap (λ (d : Chunk). d.base) same) ∙ has.3)
      | else-is_live-via-else-is_live w ↦ c.is_live.ensures.not w.if-is_live.false (subst (λ (d : Chunk). IsLive d.state) same h.1.1)
    ]
