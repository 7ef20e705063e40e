use Rattle.std.proofs.Common.{ℕ, List, Option, Some, None, IfSome, subst, arith}
use Rattle.nc_text.specs.Places.{limit_of}
use Rattle.nc_list.specs.declared.chunk.Chunk.{Chunk}
use Rattle.nc_base.proofs.Offered.{each_middle}
use Rattle.nc_list.proofs.Offered.{ascending_lower}
use Rattle.nc_acts.specs.Chunks.{HasGoodSpan}
use Rattle.nc_base.specs.Each.{Each}
use Rattle.nc_region.specs.Region.{IsNextChunk}
use Rattle.nc_region.proofs.region.RegionOf.chunk_at.Goals as goal

-- what is found lies in the region
placed : (at limit : ℕ) (chunks : List Chunk) (found : Option Chunk) → Each (λ (c : Chunk). HasGoodSpan c.base limit c.length) chunks
    → IfSome found (IsNextChunk chunks at) → IfSome found (λ c. HasGoodSpan c.base limit c.length)
placed at limit chunks None all is = tt
placed at limit chunks (Some c) all is =
    each_middle (λ (d : Chunk). HasGoodSpan d.base limit d.length) is.before is.after c
    (subst (Each (λ (d : Chunk). HasGoodSpan d.base limit d.length)) is.parts all)

pub chunk_at-requires : goal.chunk_at-requires
chunk_at-requires g c = ascending_lower 0 65536 c.self.inside.chunks (omega arith) c.self.invariant.0.ascending

pub returns-clause-found : goal.returns-clause-found
returns-clause-found g c = rw (← c.self.view_is) c.chunk_at.ensures.found

pub returns-clause-none : goal.returns-clause-none
returns-clause-none g c = rw (← c.self.view_is) c.chunk_at.ensures.none

pub returns-clause-placed : goal.returns-clause-placed
returns-clause-placed g c =
    rw (← c.self.view_is) (placed c.args.at (limit_of (g.A.Acts.marked c.self.inside.acts).bytes) c.self.inside.chunks c.chunk_at.result
    c.self.invariant.0.placed c.chunk_at.ensures.found)
