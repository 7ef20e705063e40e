use Rattle.std.proofs.Common.{length}
use Rattle.nc_region.proofs.patch.judge.+are_instructions.Given as goal

abbrev pub decreases-are_instructions : goal.decreases-are_instructions
decreases-are_instructions l = length l.bytes.now
