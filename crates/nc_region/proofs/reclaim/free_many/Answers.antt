use Rattle.std.proofs.Common.{◌≡◌, false, arith}
use Rattle.std.proofs.lemmas.Bool.{false_from_ne_true}
use Rattle.std.proofs.lemmas.List.{length-replicate}
use Rattle.nc_list.specs.declared.chunk.Chunk.{Chunk}
use Rattle.nc_region.proofs.deleting.TakingOut.{freed_all}
use Rattle.nc_region.proofs.reclaim.free_many.Goals as goal

pub returns-clause-freed : goal.returns-clause-freed
returns-clause-freed g c =
    let ended : c.free_until.result ≡ false =
    false_from_ne_true c.free_until.result (λ is. let over = c.free_until.ensures.full is in omega (arith, over, length-replicate {A = Chunk})) in
    freed_all c.args.least c.args.chunks.now c.free_until.new.chunks _ _ _ _ c.free_until.ensures.freed (c.free_until.ensures.none ended)
