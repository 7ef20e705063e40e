use Rattle.std.proofs.Common.{rules}
use Rattle.nc_output.proofs.writing.is_of_pipe.Goals as goal

pub returns : goal.returns
returns c = search rules
