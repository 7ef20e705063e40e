use Rattle.std.proofs.Common.{◌≡◌, ℕ, ◌+◌, ◌/◌, List, arith, ap, ◌∙◌, inr}
use Rattle.nc_decode.specs.declared.instruction.Mark.{Mark}
use Rattle.nc_text.specs.machinery.Pages.{Slot, byte_of, mark_in_pages}
use Rattle.nc_text.proofs.Spans.{one_part_more}
use Rattle.nc_text.proofs.Tables.{made_too}
use Rattle.nc_text.proofs.table.change.Goals as goal

-- what is given by the mark and the byte of a place of the next page, which are as before the loop
as_before : {X : Type 0} (given : Mark → ℕ → X) (old now : List Slot) (start done k : ℕ)
    → mark_in_pages now (start + done + k) ≡ mark_in_pages old (start + done + k) → byte_of now (start + done + k) ≡ byte_of old (start + done + k)
    → given (mark_in_pages now (start + done + k)) (byte_of now (start + done + k))
    ≡ given (mark_in_pages old (start + (done + k))) (byte_of old (start + (done + k)))
as_before given old now start done k mark byte =
    ap (λ (m : Mark). given m (byte_of now (start + done + k))) mark
    ∙ (ap (λ (b : ℕ). given (mark_in_pages old (start + done + k)) b) byte
    ∙ ap (λ (j : ℕ). given (mark_in_pages old j) (byte_of old j)) {x = start + done + k} {y = start + (done + k)} (omega arith))

pub change_page-requires-clause-ready : goal.change_page-requires-clause-ready
change_page-requires-clause-ready g c =
    made_too c.loop-done.pages c.args.pages.now ((c.args.start + c.loop-done.done) / 4096) c.loop-done.invariant.made
    (c.requires.ready c.loop-done.done (omega arith))

pub loop-done-preserved : goal.loop-done-preserved
loop-done-preserved g c =
    let so = c.loop-done.invariant in
    let what = c.args.what.now in
    let old = c.args.pages.now in
    let now = c.loop-done.pages in
    let new = c.change_page.new.pages in
    let start = c.args.start in
    let done = c.loop-done.done in
    record {
      few = omega (arith, c.min-part.ensures);
      whole = omega (arith, c.min-part.ensures, c.size-size.ensures);
      bytes = one_part_more so.bytes (byte_of new) c.min-part.result
          (λ k lt. c.change_page.ensures.bytes k lt ∙ as_before (g.C.Change.byte what (done + k)) old now start done k
          (so.marks.others (start + done + k) (inr (omega arith))) (so.bytes.others (start + done + k) (inr (omega arith))))
          c.change_page.ensures.other_bytes;
      marks = one_part_more so.marks (mark_in_pages new) c.min-part.result
          (λ k lt. c.change_page.ensures.marks k lt
          ∙ as_before (λ (m : Mark) (b : ℕ). g.C.Change.mark what (done + k) m) old now start done k
          (so.marks.others (start + done + k) (inr (omega arith))) (so.bytes.others (start + done + k) (inr (omega arith))))
          c.change_page.ensures.other_marks;
      made = c.change_page.ensures.made ∙ so.made;
    }
