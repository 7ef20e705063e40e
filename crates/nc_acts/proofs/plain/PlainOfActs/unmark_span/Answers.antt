use Rattle.std.proofs.Common.{arith, sym}
use Rattle.std.proofs.lemmas.Grind.{elements}
use Rattle.nc_acts.proofs.plain.PlainOfActs.unmark_span.Goals as goal

pub unmark_span-requires-clause-inside : goal.unmark_span-requires-clause-inside
unmark_span-requires-clause-inside g c = grind (arith, elements)

pub returns-clause-logged : goal.returns-clause-logged
returns-clause-logged g c = rw (sym c.self.view_is) c.note.ensures
