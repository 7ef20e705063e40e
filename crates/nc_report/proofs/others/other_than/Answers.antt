use Rattle.std.proofs.Common.{rules}
use Rattle.nc_report.proofs.others.other_than.Goals as goal

pub returns-then-k-own : goal.returns-then-k-own
returns-then-k-own c = search rules

pub returns-else-k-own : goal.returns-else-k-own
returns-else-k-own c = search rules
