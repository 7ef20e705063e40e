use Rattle.std.proofs.Common.{sym, ap, subst, arith}
use Rattle.nc_list.specs.declared.chunk.Chunk.{Chunk}
use Rattle.nc_list.proofs.Offered.{ascending_lower}
use Rattle.nc_region.specs.Region.{IsLive}
use Rattle.nc_region.proofs.chunks.Ascending.{next_contained, only_next}
use Rattle.nc_region.proofs.listing.holder.Goals as goal
use Rattle.nc_region.proofs.listing.holder.Goals.{else-is_live-via-then-is_live+else-chunk-at, else-is_live-via-else-is_live}

pub chunk_at-requires : goal.chunk_at-requires
chunk_at-requires c = ascending_lower 0 65536 c.args.chunks.now (omega arith) c.requires

pub returns-then-chunk-at-clause-some : goal.returns-then-chunk-at-clause-some
returns-then-chunk-at-clause-some c =
    let found = c.in_ok-chunk.ensures.found in (
      next_contained c.args.at c.args.chunks.now c.in_ok-chunk.chunk found,
      subst IsLive (sym (c.is_live.ensures.live c.if-is_live.true)) tt,
      (c.if-chunk-at.true, found.above),
    )

pub returns-else-is_live-clause-none : goal.returns-else-is_live-clause-none
returns-else-is_live-clause-none c = λ h.
    let same = only_next c.args.at c.args.chunks.now c.in_ok-chunk.chunk h.0 c.requires c.in_ok-chunk.ensures.found h.1.0 h.1.2 in
    elim c.else-is_live.branch [
      | else-is_live-via-then-is_live+else-chunk-at w ↦ omega (arith, w.if-chunk-at.false, ap (λ (d : Chunk). d.base) same, h.1.2.0)
      | else-is_live-via-else-is_live w ↦ c.is_live.ensures.not w.if-is_live.false (subst (λ (d : Chunk). IsLive d.state) same h.1.1)
    ]
