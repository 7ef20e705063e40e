use Rattle.std.proofs.Common.{◌-◌, ◌<◌, ◌∙◌, length, arith, refl, sym, subst}
use Rattle.std.proofs.lemmas.Grind.{common_steps}
use Rattle.std.proofs.lemmas.Bool.Decides.{nat_tests}
use Rattle.nc_decode.specs.declared.instruction.Mark.TheVariants.{Unmarked}
use Rattle.nc_decode.specs.Bits.{marks_in}
use Rattle.nc_decode.proofs.Offered.{length-marks_in, marks_in-at}
use Rattle.nc_text.specs.MarkedText.{MarkedText, with_chunk}
use Rattle.nc_text.specs.Puts.{HasPutInTurn, is_inside, is_start}
use Rattle.nc_text.proofs.Putting.{bytes_spanned, marks_spanned}
use Rattle.nc_text.proofs.PutsInTurn.{put_in_turn, put_none_in_turn, closed_at_last, inside_else}
use Rattle.nc_text.proofs.Views.{IsLent, IsSeenAs, state, put_back, changed, lent_made, span_made, span_within}
use Rattle.nc_text.proofs.text.Text.put_bundles.Goals.{After-deref_mut}
use Rattle.nc_text.proofs.text.Text.put_bundles.Goals as goal

-- the table of the text was lent
lent_of : (c : After-deref_mut) → IsLent c.self.inside.pages.items c.deref_mut.result.now c.self.inside.size c.args.self.now
lent_of c = record { loan = c.deref_mut.ensures.value; view = c.self.view_is; kept = c.self.invariant }

pub returns-then-is_empty-clause-marked : goal.returns-then-is_empty-clause-marked
returns-then-is_empty-clause-marked c = grind (arith, common_steps)

pub returns-then-is_empty-clause-whole : goal.returns-then-is_empty-clause-whole
returns-then-is_empty-clause-whole c = grind (arith, common_steps)

pub returns-then-is_empty-clause-put : goal.returns-then-is_empty-clause-put
returns-then-is_empty-clause-put c =
    put_none_in_turn is_inside is_start c.args.at c.args.code.now c.args.self.now.marked.bytes
    (grind (arith, nat_tests, c.is_empty.ensures, c.if-is_empty.true))

pub change-requires-clause-ready : goal.change-requires-clause-ready
change-requires-clause-ready c =
    span_made (lent_of (goal.at.change-requires-clause-ready c).After-deref_mut) c.args.at (length c.args.code.now) c.requires.inside c.requires.ready

-- the text is seen with these bytes and marks
seen_of : (c : goal.After-self-1) → IsSeenAs (put_back c.self.inside.pages.items c.change.new.pages c.self.inside.pages.len)
    c.self.inside.size
    (state (with_chunk c.args.self.now.marked c.args.at c.args.code.now (marks_in c.args.code.now c.args.bundles.now)) c.args.self.now.made)
seen_of c =
    let lent = lent_of (goal.at.invariant_of-self c).After-deref_mut in
    let some : 0 < length c.args.code.now = grind (arith, nat_tests, c.is_empty.ensures, c.if-is_empty.false) in
    let fits = span_within c.args.self.now.marked.bytes c.args.at (length c.args.code.now) c.requires.inside some in
    let code = c.args.code.now in
    let bundles = c.args.bundles.now in
    changed lent c.change.new.pages c.self.inside.pages.len _ _ _ (omega (arith, c.self.inside.pages.ok.0)) c.change.auto.pages
    (bytes_spanned lent c.change.new.pages (c.args.at - 65536) (length c.args.code.now) code refl fits.1 c.change.ensures.bytes c.change.ensures.other_bytes)
    (marks_spanned lent c.change.new.pages (c.args.at - 65536) (length c.args.code.now) (marks_in code bundles) (length-marks_in code bundles) fits.1
    (λ k lt. c.change.ensures.marks k lt ∙ sym (marks_in-at code bundles k Unmarked lt)) c.change.ensures.other_marks)
    (c.change.ensures.made ∙ lent_made lent)
    (closed_at_last is_inside is_start c.args.at code c.args.self.now.marked (with_chunk c.args.self.now.marked c.args.at code (marks_in code bundles)).marks
    fits.0 (omega (arith, fits.0, fits.1)) inside_else c.requires.closed)

pub invariant_of-self : goal.invariant_of-self
invariant_of-self c = let seen = seen_of c in (seen.whole, seen.long)

pub returns : goal.returns
returns c =
    let seen = seen_of c in
    let code = c.args.code.now in
    let some : 0 < length code = grind (arith, nat_tests, c.is_empty.ensures, c.if-is_empty.false) in
    let fits = span_within c.args.self.now.marked.bytes c.args.at (length code) c.requires.inside some in
    record {
      put = subst (λ (m : MarkedText). HasPutInTurn is_inside is_start c.args.at code c.args.self.now.marked.bytes m.bytes) (sym seen.marked)
          (put_in_turn is_inside is_start c.args.at code c.args.self.now.marked.bytes fits.0 (omega (arith, fits.0, fits.1)) inside_else);
      marked = seen.marked;
      made = seen.made;
      whole = seen.whole;
    }
