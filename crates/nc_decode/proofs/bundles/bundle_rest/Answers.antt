use Rattle.std.proofs.Common.{arith}
use Rattle.nc_decode.proofs.bundles.bundle_rest.Goals as goal

pub returns-clause-rest : goal.returns-clause-rest
returns-clause-rest c = omega arith

pub returns-clause-some : goal.returns-clause-some
returns-clause-some c = (omega arith, omega arith)
