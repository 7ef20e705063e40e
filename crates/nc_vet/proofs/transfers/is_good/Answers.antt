use Rattle.std.proofs.Common.{rules}
use Rattle.nc_vet.proofs.transfers.is_good.Goals as goal

pub returns-else-at-bundles : goal.returns-else-at-bundles
returns-else-at-bundles c = search rules
