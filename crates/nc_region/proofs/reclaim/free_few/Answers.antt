use Rattle.nc_region.proofs.deleting.TakingOut.{freed_all, freed_rest}
use Rattle.nc_region.proofs.reclaim.free_few.Goals as goal

pub returns-then-not-free_until-clause-freed : goal.returns-then-not-free_until-clause-freed
returns-then-not-free_until-clause-freed g c =
    freed_all c.args.least c.args.chunks.now c.free_until.new.chunks _ _ _ _ c.free_until.ensures.freed
    (c.free_until.ensures.none c.if-not-free_until.true)

pub free_many-requires-clause-region : goal.free_many-requires-clause-region
free_many-requires-clause-region g c = c.free_until.ensures.freed.region

pub returns-clause-freed : goal.returns-clause-freed
returns-clause-freed g c =
    freed_rest c.args.least c.args.chunks.now c.free_until.new.chunks c.free_many.new.chunks _ _ _ _ _ _
    c.free_until.ensures.freed c.free_many.ensures.freed
