use Rattle.std.proofs.Common.{◌≡◌, ℕ, ◌+◌, ◌/◌, ◌<◌, ◌≤◌, List, length, take, drop, get_or, arith, ◌∙◌, inl, inr}
use Rattle.std.proofs.lemmas.List.{places, length-take, length-drop}
use Rattle.nc_decode.specs.declared.instruction.Mark.{Mark}
use Rattle.nc_decode.specs.declared.instruction.Mark.TheVariants.{Unmarked}
use Rattle.nc_text.specs.machinery.Pages.{mark_in_pages}
use Rattle.nc_text.proofs.Spans.{one_part_more}
use Rattle.nc_text.proofs.Tables.{made_too}
use Rattle.nc_text.proofs.table.set_span.Goals as goal

-- a mark of a part of the list
part_at : (marks : List Mark) (from n k : ℕ) → k < n → from + n ≤ length marks
    → get_or (take n (drop from marks)) k Unmarked ≡ get_or marks (from + k) Unmarked
part_at marks from n k lt fits = grind (arith, places)

pub set_part-requires-clause-ready : goal.set_part-requires-clause-ready
set_part-requires-clause-ready c =
    made_too c.loop-done.pages c.args.pages.now ((c.args.start + c.loop-done.done) / 4096) c.loop-done.invariant.made
    (c.requires.ready c.loop-done.done (omega arith))

pub loop-done-preserved : goal.loop-done-preserved
loop-done-preserved c =
    let so = c.loop-done.invariant in
    let marks = c.args.marks.now in
    record {
      few = omega (arith, c.min-part.ensures);
      marks = one_part_more so.marks (mark_in_pages c.set_part.new.pages) c.min-part.result
          (λ k lt. c.set_part.ensures.within k (omega (arith, lt, c.min-part.ensures, length-take {A = Mark}, length-drop {A = Mark}))
          ∙ part_at marks c.loop-done.done _ k (omega (arith, lt)) (omega (arith, c.min-part.ensures)))
          (λ k out. c.set_part.ensures.others k (elim out [
            | inl low ↦ inl low
            | inr high ↦ inr (omega (arith, high, c.min-part.ensures, length-take {A = Mark}, length-drop {A = Mark}))
          ]));
      bytes = λ k. c.set_part.ensures.bytes k ∙ so.bytes k;
      made = c.set_part.ensures.made ∙ so.made;
    }
