use Rattle.std.proofs.Common.{◌+◌, arith, ap, ◌∙◌}
use Rattle.nc_text.specs.MarkedText.{unused_mark}
use Rattle.nc_text.specs.machinery.Pages.{mark_in_pages}
use Rattle.nc_text.proofs.Spans.{one_part_more}
use Rattle.nc_text.proofs.table.unmark.Goals as goal

pub loop-done-preserved : goal.loop-done-preserved
loop-done-preserved c =
    let so = c.loop-done.invariant in
    let start = c.args.start in
    let done = c.loop-done.done in
    record {
      few = omega (arith, c.min-part.ensures);
      marks = one_part_more so.marks (mark_in_pages c.unmark_page.new.pages) c.min-part.result
          (λ k lt. c.unmark_page.ensures.within k lt ∙ ap unused_mark {x = start + done + k} {y = start + (done + k)} (omega arith))
          c.unmark_page.ensures.others;
      bytes = λ k. c.unmark_page.ensures.bytes k ∙ so.bytes k;
      made = c.unmark_page.ensures.made ∙ so.made;
    }
