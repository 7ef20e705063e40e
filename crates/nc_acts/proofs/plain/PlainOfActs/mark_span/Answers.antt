use Rattle.std.proofs.Common.{length, sym, subst}
use Rattle.nc_text.specs.Places.{SpanInRegion}
use Rattle.nc_acts.specs.Plain.{PlainState}
use Rattle.nc_acts.proofs.plain.PlainOfActs.mark_span.Goals as goal

pub mark_span-requires-clause-inside : goal.mark_span-requires-clause-inside
mark_span-requires-clause-inside g c =
    subst (λ (s : PlainState). SpanInRegion s.marked.bytes c.args.at (length c.args.marks.now)) (sym c.self.view_is) c.requires.inside

pub returns-clause-logged : goal.returns-clause-logged
returns-clause-logged g c = rw (sym c.self.view_is) c.note.ensures
