use Rattle.std.proofs.Common.{◌∙◌, ◌+◌, ◌-◌, arith, sym}
use Rattle.std.proofs.lemmas.Grind.{common_steps}
use Rattle.std.proofs.lemmas.List.FromFn.{length-map-range_with_len, get_or-map-range_with_len}
use Rattle.nc_decode.specs.declared.instruction.Mark.TheVariants.{Unmarked}
use Rattle.nc_text.specs.MarkedText.{unused_mark, unused_marks, with_marks}
use Rattle.nc_text.proofs.Putting.{marks_spanned}
use Rattle.nc_text.proofs.Views.{IsLent, IsSeenAs, state, put_back, changed, lent_long, lent_made, same_bytes, span_within, unused_mark_up}
use Rattle.nc_text.proofs.text.Text.unmark_span.Goals.{After-deref_mut}
use Rattle.nc_text.proofs.text.Text.unmark_span.Goals as goal

-- the table of the text was lent
lent_of : (c : After-deref_mut) → IsLent c.self.inside.pages.items c.deref_mut.result.now c.self.inside.size c.args.self.now
lent_of c = record { loan = c.deref_mut.ensures.value; view = c.self.view_is; kept = c.self.invariant }

pub returns-then-len-eq0-clause-marked : goal.returns-then-len-eq0-clause-marked
returns-then-len-eq0-clause-marked c = grind (arith, common_steps)

pub returns-then-len-eq0-clause-whole : goal.returns-then-len-eq0-clause-whole
returns-then-len-eq0-clause-whole c = grind (arith, common_steps)

pub unmark-requires-clause-inside : goal.unmark-requires-clause-inside
unmark-requires-clause-inside c = λ k lt.
    let fits = span_within c.args.self.now.marked.bytes c.args.at c.args.len c.requires.inside (omega arith) in
    let long = lent_long (lent_of (goal.at.unmark-requires-clause-inside c).After-deref_mut) in
    omega (arith, fits.0, fits.1, lt, long.0, long.1)

-- the text is seen with these marks
seen_of : (c : goal.After-self-1) → IsSeenAs (put_back c.self.inside.pages.items c.unmark.new.pages c.self.inside.pages.len)
    c.self.inside.size (state (with_marks c.args.self.now.marked c.args.at (unused_marks c.args.at c.args.len)) c.args.self.now.made)
seen_of c =
    let lent = lent_of (goal.at.invariant_of-self c).After-deref_mut in
    let fits = span_within c.args.self.now.marked.bytes c.args.at c.args.len c.requires.inside (omega arith) in
    changed lent c.unmark.new.pages c.self.inside.pages.len _ _ _ (omega (arith, c.self.inside.pages.ok.0)) c.unmark.auto.pages
    (same_bytes lent c.unmark.new.pages c.unmark.ensures.bytes)
    (marks_spanned lent c.unmark.new.pages (c.args.at - 65536) c.args.len (unused_marks c.args.at c.args.len) (length-map-range_with_len unused_mark c.args.at c.args.len)
    fits.1 (λ k lt. c.unmark.ensures.within k lt ∙ (sym (unused_mark_up (c.args.at - 65536 + k))
    ∙ sym (get_or-map-range_with_len unused_mark c.args.at c.args.len k (65536 + (c.args.at - 65536 + k)) Unmarked lt (omega (arith, fits.0)))))
    c.unmark.ensures.others)
    (c.unmark.ensures.made ∙ lent_made lent) c.requires.closed

pub invariant_of-self : goal.invariant_of-self
invariant_of-self c = let seen = seen_of c in (seen.whole, seen.long)

pub returns : goal.returns
returns c = let seen = seen_of c in record { marked = seen.marked; made = seen.made; whole = seen.whole }
