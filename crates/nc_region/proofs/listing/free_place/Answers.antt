use Rattle.std.proofs.Common.{Option, IfSome, refl, subst, arith}
use Rattle.nc_list.specs.declared.chunk.Chunk.{Chunk}
use Rattle.nc_list.specs.Chunks.{IsNextChunk}
use Rattle.nc_list.proofs.Offered.{ascending_lower}
use Rattle.nc_region.proofs.chunks.Ascending.{above_all_free, next_free, next_meets}
use Rattle.nc_region.proofs.listing.free_place.Goals as goal

pub find-next-requires : goal.find-next-requires
find-next-requires c = ascending_lower 0 65536 c.args.chunks.now (omega arith) c.requires.ascending

pub returns-then-chunk-base-clause-meets : goal.returns-then-chunk-base-clause-meets
returns-then-chunk-base-clause-meets c =
    next_meets c.args.base c.args.len c.args.chunks.now c.in-Some.chunk
    (subst (λ (o : Option Chunk). IfSome o (IsNextChunk c.args.chunks.now c.args.base)) c.in-Some.is c.find-next.ensures.found)
    c.if-chunk-base.true

pub returns-else-chunk-base-clause-free : goal.returns-else-chunk-base-clause-free
returns-else-chunk-base-clause-free c =
    next_free c.args.base c.args.len c.args.chunks.now c.in-Some.chunk c.requires.ascending
    (subst (λ (o : Option Chunk). IfSome o (IsNextChunk c.args.chunks.now c.args.base)) c.in-Some.is c.find-next.ensures.found)
    (omega (arith, c.if-chunk-base.false))

pub returns-in_default-clause-free : goal.returns-in_default-clause-free
returns-in_default-clause-free c =
    above_all_free c.args.base c.args.len c.args.chunks.now (c.find-next.ensures.none (rw c.in_default.is refl))
