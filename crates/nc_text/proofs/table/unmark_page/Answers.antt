use Rattle.std.proofs.Common.{◌≡◌, ℕ, ◌+◌, ◌/◌, ◌%◌, Some, arith, ap, ◌∙◌}
use Rattle.std.proofs.lemmas.Grind.{common_steps}
use Rattle.std.specs.Box.{with_value}
use Rattle.nc_text.specs.MarkedText.{unused_mark}
use Rattle.nc_text.specs.machinery.Pages.{mark_if_made}
use Rattle.nc_text.proofs.Tables.{IsLentPage, lent_page, byte_kept, made_kept, mark_kept, on_page, out_on_page, unused_mark_on}
use Rattle.nc_text.proofs.table.unmark_page.Goals as goal

-- the page of the place was lent
lent_of : (c : goal.After-pages-1) → IsLentPage c.args.pages.now (c.args.at / 4096) c.in-Some.page c.deref_mut.result.now
lent_of c = lent_page c.index-pages-at.result c.requires.inside c.in-Some.is
    c.deref_mut.ensures.value

pub returns-in-Some-clause-within : goal.returns-in-Some-clause-within
returns-in-Some-clause-within c =
    λ k lt.
    let place : c.args.at % 4096 + k ≡ (c.args.at + k) % 4096 = omega arith in
    on_page mark_if_made c.args.pages.now (Some (with_value c.in-Some.page c.unmark.new.self)) c.args.at k c.requires.inside (omega arith)
    ∙ (c.unmark.ensures.within k lt ∙ (ap (λ (j : ℕ). unused_mark j) place ∙ unused_mark_on (c.args.at + k)))

pub returns-in-Some-clause-others : goal.returns-in-Some-clause-others
returns-in-Some-clause-others c = λ k out. mark_kept (lent_of c) c.unmark.new.self k
    (λ same. c.unmark.ensures.others (k % 4096) (out_on_page c.args.at c.args.len k (omega arith) out same))

pub returns-in-Some-clause-bytes : goal.returns-in-Some-clause-bytes
returns-in-Some-clause-bytes c = λ k. byte_kept (lent_of c) c.unmark.new.self k (λ _. c.unmark.ensures.bytes (k % 4096))

pub returns-in-Some-clause-made : goal.returns-in-Some-clause-made
returns-in-Some-clause-made c = made_kept (lent_of c) c.unmark.new.self

pub returns-in_default-clause-others : goal.returns-in_default-clause-others
returns-in_default-clause-others c = grind (arith, common_steps)

pub returns-in_default-clause-made : goal.returns-in_default-clause-made
returns-in_default-clause-made c = grind (arith, common_steps)
