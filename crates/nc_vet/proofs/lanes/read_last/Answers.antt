use Rattle.std.proofs.Common.{rules}
use Rattle.nc_vet.proofs.lanes.read_last.Goals as goal

pub with_last-requires-clause-last : goal.with_last-requires-clause-last
with_last-requires-clause-last c = search rules
