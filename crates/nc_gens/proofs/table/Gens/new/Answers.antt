use Rattle.std.proofs.Common.{rules, arith}
use Rattle.nc_gens.proofs.table.Gens.new.Goals as goal

pub open-requires : goal.open-requires
open-requires c = (omega arith, omega arith)

pub returns-clause-bad_seats : goal.returns-clause-bad_seats
returns-clause-bad_seats c = (search rules, λ few. absurd (few (omega arith, omega arith)))
