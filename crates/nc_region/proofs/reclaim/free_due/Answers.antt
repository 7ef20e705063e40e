use Rattle.std.proofs.Common.{List, length, ap, arith}
use Rattle.nc_list.specs.declared.chunk.Chunk.{Chunk}
use Rattle.nc_list.proofs.Offered.{kept_and_freed}
use Rattle.nc_region.proofs.deleting.TakingOut.{freed_none, freed_all}
use Rattle.nc_region.proofs.reclaim.free_due.Goals as goal

pub returns-then-not-may_be_due-clause-freed : goal.returns-then-not-may_be_due-clause-freed
returns-then-not-may_be_due-clause-freed g c =
    freed_all c.args.least c.args.chunks.now c.args.chunks.now _ _ _ _
    (freed_none c.args.least c.args.chunks.now (g.A.Acts.marked c.args.acts.now) (g.A.Acts.logged c.args.acts.now) c.requires.region)
    (c.may_be_due.ensures c.if-not-may_be_due.true)

pub overflow_sub-result : goal.overflow_sub-result
overflow_sub-result g c =
    omega (
      arith,
      kept_and_freed c.args.least c.args.chunks.now,
      ap (λ (z : List Chunk). length z) c.free_few.ensures.freed.chunks,
      c.len-before.ensures,
      c.len.ensures,
    )

pub returns-clause-count : goal.returns-clause-count
returns-clause-count g c =
    omega (
      arith,
      kept_and_freed c.args.least c.args.chunks.now,
      ap (λ (z : List Chunk). length z) c.free_few.ensures.freed.chunks,
      c.len-before.ensures,
      c.len.ensures,
    )
