use Rattle.std.proofs.Common.{sym}
use Rattle.nc_acts.proofs.plain.PlainOfActs.put.Goals as goal

pub returns-clause-logged : goal.returns-clause-logged
returns-clause-logged g c = rw (sym c.self.view_is) c.note.ensures
