use Rattle.std.proofs.Common.{arith}
use Rattle.nc_text.proofs.BitPlaces.{lowest_set, none_lower, lowest_cleared, others_left, fewer_left}
use Rattle.nc_text.proofs.places.lowest_place.Goals as goal

pub returns-clause-set : goal.returns-clause-set
returns-clause-set c = lowest_set c.args.places c.requires (omega (arith, c.ranges.places))

pub returns-clause-below : goal.returns-clause-below
returns-clause-below c = none_lower c.args.places c.requires (omega (arith, c.ranges.places))

pub returns-clause-cleared : goal.returns-clause-cleared
returns-clause-cleared c = lowest_cleared c.args.places c.requires (omega (arith, c.ranges.places))

pub returns-clause-others : goal.returns-clause-others
returns-clause-others c = others_left c.args.places c.requires (omega (arith, c.ranges.places))

pub returns-clause-fewer : goal.returns-clause-fewer
returns-clause-fewer c = fewer_left c.args.places c.requires (omega (arith, c.ranges.places))
