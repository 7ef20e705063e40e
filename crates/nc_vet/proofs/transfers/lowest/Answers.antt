use Rattle.std.proofs.Common.{arith}
use Rattle.nc_vet.proofs.BitPlaces.{lowest_set, others_left, fewer_left}
use Rattle.nc_vet.proofs.transfers.lowest.Goals as goal

pub returns-clause-set : goal.returns-clause-set
returns-clause-set c = lowest_set c.args.bits c.requires (omega (arith, c.ranges.bits))

pub returns-clause-others : goal.returns-clause-others
returns-clause-others c = others_left c.args.bits c.requires (omega (arith, c.ranges.bits))

pub returns-clause-fewer : goal.returns-clause-fewer
returns-clause-fewer c = fewer_left c.args.bits c.requires (omega (arith, c.ranges.bits))
