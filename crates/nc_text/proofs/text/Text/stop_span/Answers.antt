use Rattle.std.proofs.Common.{ℕ, ◌-◌, ◌∙◌, replicate, arith, sym, subst}
use Rattle.std.proofs.lemmas.Grind.{common_steps, rows}
use Rattle.std.proofs.lemmas.List.{get_or-replicate, length-replicate}
use Rattle.nc_text.specs.machinery.Pages.{mark_in_pages}
use Rattle.nc_text.specs.MarkedText.{MarkedText, with_stops}
use Rattle.nc_text.specs.Puts.{HasPutInTurn, is_marked_at, is_unmarked_at}
use Rattle.nc_text.proofs.Putting.{same_everywhere, bytes_spanned}
use Rattle.nc_text.proofs.PutsInTurn.{put_in_turn, put_none_in_turn, closed_at_last, marked_else}
use Rattle.nc_text.proofs.Views.{IsLent, IsSeenAs, state, put_back, changed, lent_made, span_made, same_marks, span_within}
use Rattle.nc_text.proofs.text.Text.stop_span.Goals.{After-deref_mut}
use Rattle.nc_text.proofs.text.Text.stop_span.Goals as goal

-- the table of the text was lent
lent_of : (c : After-deref_mut) → IsLent c.self.inside.pages.items c.deref_mut.result.now c.self.inside.size c.args.self.now
lent_of c = record { loan = c.deref_mut.ensures.value; view = c.self.view_is; kept = c.self.invariant }

pub returns-then-len-eq0-clause-marked : goal.returns-then-len-eq0-clause-marked
returns-then-len-eq0-clause-marked c = grind (arith, common_steps, rows)

pub returns-then-len-eq0-clause-whole : goal.returns-then-len-eq0-clause-whole
returns-then-len-eq0-clause-whole c = grind (arith, common_steps)

pub returns-then-len-eq0-clause-put : goal.returns-then-len-eq0-clause-put
returns-then-len-eq0-clause-put c =
    let old = c.args.self.now.marked in
    put_none_in_turn (is_marked_at old.marks) (is_unmarked_at old.marks) c.args.at (replicate c.args.len 244) old.bytes
    (length-replicate {A = ℕ} c.args.len 244 ∙ omega arith)

pub change-requires-clause-ready : goal.change-requires-clause-ready
change-requires-clause-ready c =
    span_made (lent_of (goal.at.change-requires-clause-ready c).After-deref_mut) c.args.at c.args.len c.requires.inside c.requires.ready

-- the text is seen with these stops
seen_of : (c : goal.After-self-1) → IsSeenAs (put_back c.self.inside.pages.items c.change.new.pages c.self.inside.pages.len)
    c.self.inside.size (state (with_stops c.args.self.now.marked c.args.at c.args.len) c.args.self.now.made)
seen_of c =
    let lent = lent_of (goal.at.invariant_of-self c).After-deref_mut in
    let old = c.args.self.now.marked in
    let fits = span_within old.bytes c.args.at c.args.len c.requires.inside (omega arith) in
    changed lent c.change.new.pages c.self.inside.pages.len _ _ _ (omega (arith, c.self.inside.pages.ok.0)) c.change.auto.pages
    (bytes_spanned lent c.change.new.pages (c.args.at - 65536) c.args.len (replicate c.args.len 244) (length-replicate c.args.len 244)
    fits.1 (λ k lt. c.change.ensures.bytes k lt ∙ sym (get_or-replicate {A = ℕ} c.args.len k 244 0 lt)) c.change.ensures.other_bytes)
    (same_marks lent c.change.new.pages
    (same_everywhere (mark_in_pages c.change.new.pages) (mark_in_pages c.deref_mut.result.now) (c.args.at - 65536) c.args.len
    c.change.ensures.marks c.change.ensures.other_marks))
    (c.change.ensures.made ∙ lent_made lent)
    (closed_at_last (is_marked_at old.marks) (is_unmarked_at old.marks) c.args.at (replicate c.args.len 244) old old.marks fits.0
    (omega (arith, fits.0, fits.1, length-replicate {A = ℕ} c.args.len 244)) (marked_else old.marks) c.requires.closed)

pub invariant_of-self : goal.invariant_of-self
invariant_of-self c = let seen = seen_of c in (seen.whole, seen.long)

pub returns : goal.returns
returns c =
    let seen = seen_of c in
    let old = c.args.self.now.marked in
    let fits = span_within old.bytes c.args.at c.args.len c.requires.inside (omega arith) in
    record {
      put = subst (λ (m : MarkedText). HasPutInTurn (is_marked_at old.marks) (is_unmarked_at old.marks) c.args.at (replicate c.args.len 244)
          old.bytes m.bytes) (sym seen.marked)
          (put_in_turn (is_marked_at old.marks) (is_unmarked_at old.marks) c.args.at (replicate c.args.len 244) old.bytes fits.0
          (omega (arith, fits.0, fits.1, length-replicate {A = ℕ} c.args.len 244)) (marked_else old.marks));
      marked = seen.marked;
      made = seen.made;
      whole = seen.whole;
    }
