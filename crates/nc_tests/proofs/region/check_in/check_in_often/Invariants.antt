use Rattle.std.proofs.Common.{◌≡◌}
use Rattle.nc_tests.proofs.region.check_in.check_in_often.Given as goal

abbrev pub invariant-loop : goal.invariant-loop
invariant-loop g l = l.pass.table ≡ l.fn.pass.table
