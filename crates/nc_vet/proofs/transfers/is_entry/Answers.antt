use Rattle.std.proofs.Common.{arith, eqb-true}
use Rattle.nc_vet.proofs.BitPlaces.{start_bit, second_bit}
use Rattle.nc_vet.proofs.transfers.is_entry.Goals as goal

pub returns-then-starts-k-eq1-clause-start : goal.returns-then-starts-k-eq1-clause-start
returns-then-starts-k-eq1-clause-start c = λ t. start_bit c.args.bundle c.args.k _ (omega (arith, c.from.ensures)) c.if-starts-k-eq1.true

pub returns-then-starts-k-eq1-clause-second : goal.returns-then-starts-k-eq1-clause-second
returns-then-starts-k-eq1-clause-second c = λ t. second_bit c.args.bundle c.args.k (eqb-true _ 0 t)
