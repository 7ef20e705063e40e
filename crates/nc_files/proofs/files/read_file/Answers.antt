use Rattle.std.proofs.Common.{arith}
use Rattle.std.proofs.lemmas.Grind.{common_steps}
use Rattle.nc_files.proofs.files.read_file.Goals as goal

pub open-requires : goal.open-requires
open-requires g c κs = grind (arith, common_steps)
