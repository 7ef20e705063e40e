use Rattle.std.proofs.Common.{rules}
use Rattle.nc_region.proofs.patch.judge.keeps_transfer.Goals as goal

pub returns-then-is_indirect : goal.returns-then-is_indirect
returns-then-is_indirect c = search rules
