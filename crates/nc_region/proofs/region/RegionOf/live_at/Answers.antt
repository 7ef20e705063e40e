use Rattle.std.proofs.Common.{arith, ◌≡◌, ℕ, List, Option, Some, None, IfSome, Contains}
use Rattle.std.proofs.lemmas.Grind.{elements}
use Rattle.nc_text.specs.Places.{limit_of}
use Rattle.nc_list.specs.declared.chunk.Chunk.{Chunk}
use Rattle.nc_list.specs.declared.chunk.ChunkState.TheVariants.{Live}
use Rattle.nc_base.proofs.Offered.{each_contains}
use Rattle.nc_acts.specs.Chunks.{HasGoodSpan}
use Rattle.nc_base.specs.Each.{Each}
use Rattle.nc_region.proofs.region.RegionOf.live_at.Goals as goal

-- what is found lies in the region
placed : (base limit : ℕ) (chunks : List Chunk) (found : Option Chunk) → Each (λ (c : Chunk). HasGoodSpan c.base limit c.length) chunks
    → IfSome found (λ c. Contains chunks c × (c.state ≡ Live) × (c.base ≡ base)) → IfSome found (λ c. HasGoodSpan c.base limit c.length)
placed base limit chunks None all is = tt
placed base limit chunks (Some c) all is = each_contains (λ (d : Chunk). HasGoodSpan d.base limit d.length) chunks c all is.0

pub live_at-requires-clause-some : goal.live_at-requires-clause-some
live_at-requires-clause-some g c = grind (arith, elements)

pub returns-clause-placed : goal.returns-clause-placed
returns-clause-placed g c =
    rw (← c.self.view_is) (placed c.args.base (limit_of (g.A.Acts.marked c.self.inside.acts).bytes) c.self.inside.chunks c.live_at.result
    c.self.invariant.0.placed c.live_at.ensures.some)
