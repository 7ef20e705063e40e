use Rattle.std.proofs.Common.{◌+◌, ◌/◌, ◌%◌, None, arith, ap, sym, ◌∙◌}
use Rattle.std.proofs.lemmas.List.{get_or_default, get_or-replicate}
use Rattle.nc_text.specs.declared.page.Page.{Page}
use Rattle.nc_text.specs.machinery.Pages.{Slot, byte_on, byte_if_made}
use Rattle.nc_text.proofs.Tables.{same_page}
use Rattle.nc_text.proofs.table.read_run.Goals as goal

pub returns-in-None : goal.returns-in-None
returns-in-None c = λ k lt.
    let at = c.args.at in
    let same = get_or_default c.args.pages.now (at / 4096) None c.index-pages-at.result c.requires.inside ∙ (sym c.index-pages-at.is ∙ c.in-None.is) in
    get_or-replicate 32 k 244 0 (omega (arith, c.requires.one_bundle, lt))
    ∙ sym (same_page byte_if_made c.args.pages.now at k (omega (arith, c.requires.one_bundle, lt)) ∙ ap (λ (o : Slot). byte_if_made o (at % 4096 + k)) same)

pub returns-in-Some : goal.returns-in-Some
returns-in-Some c = λ k lt.
    let at = c.args.at in
    let same = get_or_default c.args.pages.now (at / 4096) None c.index-pages-at.result c.requires.inside ∙ (sym c.index-pages-at.is ∙ c.in-Some.is) in
    c.read_run.ensures k lt
    ∙ (ap (λ (p : Page). byte_on p (at % 4096 + k)) c.deref.ensures
    ∙ sym (same_page byte_if_made c.args.pages.now at k (omega (arith, c.requires.one_bundle, lt)) ∙ ap (λ (o : Slot). byte_if_made o (at % 4096 + k)) same))
