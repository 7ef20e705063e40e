use Rattle.std.proofs.Common.{◌-◌, ◌<◌, ◌∙◌, length, arith, refl}
use Rattle.std.proofs.lemmas.Grind.{common_steps}
use Rattle.std.proofs.lemmas.Bool.Decides.{nat_tests}
use Rattle.nc_text.specs.MarkedText.{with_marks}
use Rattle.nc_text.proofs.Putting.{marks_spanned}
use Rattle.nc_text.proofs.Views.{IsLent, IsSeenAs, state, put_back, changed, lent_made, span_made, same_bytes, span_within}
use Rattle.nc_text.proofs.text.Text.mark_span.Goals.{After-deref_mut}
use Rattle.nc_text.proofs.text.Text.mark_span.Goals as goal

-- the table of the text was lent
lent_of : (c : After-deref_mut) → IsLent c.self.inside.pages.items c.deref_mut.result.now c.self.inside.size c.args.self.now
lent_of c = record { loan = c.deref_mut.ensures.value; view = c.self.view_is; kept = c.self.invariant }

pub returns-then-is_empty-clause-marked : goal.returns-then-is_empty-clause-marked
returns-then-is_empty-clause-marked c = grind (arith, common_steps)

pub returns-then-is_empty-clause-whole : goal.returns-then-is_empty-clause-whole
returns-then-is_empty-clause-whole c = grind (arith, common_steps)

pub set_span-requires-clause-ready : goal.set_span-requires-clause-ready
set_span-requires-clause-ready c =
    span_made (lent_of (goal.at.set_span-requires-clause-ready c).After-deref_mut) c.args.at (length c.args.marks.now) c.requires.inside c.requires.ready

-- the text is seen with these marks
seen_of : (c : goal.After-self-1) → IsSeenAs (put_back c.self.inside.pages.items c.set_span.new.pages c.self.inside.pages.len)
    c.self.inside.size (state (with_marks c.args.self.now.marked c.args.at c.args.marks.now) c.args.self.now.made)
seen_of c =
    let lent = lent_of (goal.at.invariant_of-self c).After-deref_mut in
    let some : 0 < length c.args.marks.now = grind (arith, nat_tests, c.is_empty.ensures, c.if-is_empty.false) in
    changed lent c.set_span.new.pages c.self.inside.pages.len _ _ _ (omega (arith, c.self.inside.pages.ok.0)) c.set_span.auto.pages
    (same_bytes lent c.set_span.new.pages c.set_span.ensures.bytes)
    (marks_spanned lent c.set_span.new.pages (c.args.at - 65536) (length c.args.marks.now) c.args.marks.now refl (span_within c.args.self.now.marked.bytes c.args.at (length c.args.marks.now) c.requires.inside some).1 c.set_span.ensures.within
    c.set_span.ensures.others)
    (c.set_span.ensures.made ∙ lent_made lent) c.requires.closed

pub invariant_of-self : goal.invariant_of-self
invariant_of-self c = let seen = seen_of c in (seen.whole, seen.long)

pub returns : goal.returns
returns c = let seen = seen_of c in record { marked = seen.marked; made = seen.made; whole = seen.whole }
