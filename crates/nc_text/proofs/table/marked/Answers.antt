use Rattle.std.proofs.Common.{◌+◌, ◌/◌, ◌%◌, None, arith, ap, sym, ◌∙◌}
use Rattle.std.proofs.lemmas.List.{get_or_default}
use Rattle.nc_decode.specs.Bits.{mark_bit}
use Rattle.nc_text.specs.declared.page.Page.{Page}
use Rattle.nc_text.specs.machinery.Pages.{Slot, mark_on, mark_if_made}
use Rattle.nc_text.proofs.MarkedBits.{unused_bit, unused_from}
use Rattle.nc_text.proofs.Tables.{same_page}
use Rattle.nc_text.proofs.table.marked.Goals as goal

pub returns-in-None : goal.returns-in-None
returns-in-None c = λ k lt.
    let at = c.args.at in
    let same = get_or_default c.args.pages.now (at / 4096) None c.index-pages-at.result c.requires.inside ∙ (sym c.index-pages-at.is ∙ c.in-None.is) in
    let here = same_page mark_if_made c.args.pages.now at k (omega (arith, c.requires.start, lt))
    ∙ (ap (λ (o : Slot). mark_if_made o (at % 4096 + k)) same ∙ unused_from (at % 4096) k (omega (arith, c.requires.start))) in
    unused_bit k lt ∙ sym (ap mark_bit here)

pub returns-in-Some : goal.returns-in-Some
returns-in-Some c = λ k lt.
    let at = c.args.at in
    let same = get_or_default c.args.pages.now (at / 4096) None c.index-pages-at.result c.requires.inside ∙ (sym c.index-pages-at.is ∙ c.in-Some.is) in
    let here = same_page mark_if_made c.args.pages.now at k (omega (arith, c.requires.start, lt)) ∙ ap (λ (o : Slot). mark_if_made o (at % 4096 + k)) same in
    c.marked.ensures k lt
    ∙ (ap (λ (p : Page). mark_bit (mark_on p (at % 4096 + k))) c.deref.ensures ∙ sym (ap mark_bit here))
