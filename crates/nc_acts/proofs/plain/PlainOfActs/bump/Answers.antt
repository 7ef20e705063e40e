use Rattle.std.proofs.Common.{rules}
use Rattle.nc_acts.proofs.plain.PlainOfActs.bump.Goals as goal

pub returns-then-is_ok-clause-unlogged : goal.returns-then-is_ok-clause-unlogged
returns-then-is_ok-clause-unlogged g c = search rules
