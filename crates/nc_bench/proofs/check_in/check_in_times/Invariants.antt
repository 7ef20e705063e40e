use Rattle.std.proofs.Common.{◌≡◌}
use Rattle.nc_bench.proofs.check_in.check_in_times.Given as goal

abbrev pub invariant-loop : goal.invariant-loop
invariant-loop g l = l.pass.table ≡ l.fn.pass.table
