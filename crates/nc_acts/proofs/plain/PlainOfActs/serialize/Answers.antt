use Rattle.std.proofs.Common.{rules}
use Rattle.nc_acts.proofs.plain.PlainOfActs.serialize.Goals as goal

pub returns-clause-logged : goal.returns-clause-logged
returns-clause-logged g c = search rules
