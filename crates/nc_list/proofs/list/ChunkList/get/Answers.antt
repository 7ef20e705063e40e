use Rattle.std.proofs.Common.{rules}
use Rattle.nc_list.proofs.list.ChunkList.get.Goals as goal

pub at-requires : goal.at-requires
at-requires c = search rules
