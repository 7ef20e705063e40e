use Rattle.std.proofs.Common.{rules}
use Rattle.nc_list.proofs.starts.part_with.Goals as goal

pub loop-high-preserved : goal.loop-high-preserved
loop-high-preserved c = search rules
