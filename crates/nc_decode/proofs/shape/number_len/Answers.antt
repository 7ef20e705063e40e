use Rattle.std.proofs.Common.{rules}
use Rattle.nc_decode.specs.machinery.Shapes.{coded_len}
use Rattle.nc_decode.proofs.shape.number_len.Goals as goal

pub returns-in-Sized-clause-len : goal.returns-in-Sized-clause-len
unfolding coded_len
returns-in-Sized-clause-len c = search rules
