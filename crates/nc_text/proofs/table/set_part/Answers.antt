use Rattle.std.proofs.Common.{◌/◌, ◌%◌, Some, length, arith, ◌∙◌}
use Rattle.std.proofs.lemmas.Grind.{common_steps}
use Rattle.std.specs.Box.{with_value}
use Rattle.nc_text.specs.machinery.Pages.{mark_if_made}
use Rattle.nc_text.proofs.Tables.{IsLentPage, lent_page, made_within, byte_kept, made_kept, mark_kept, on_page, out_on_page}
use Rattle.nc_text.proofs.table.set_part.Goals as goal

-- the page of the place was lent
lent_of : (c : goal.After-pages-1) → IsLentPage c.args.pages.now (c.args.at / 4096) c.in-Some.page c.deref_mut.result.now
lent_of c = lent_page c.index-pages-at.result (made_within c.args.pages.now (c.args.at / 4096) c.requires.ready) c.in-Some.is
    c.deref_mut.ensures.value

pub bounds-pages-at : goal.bounds-pages-at
bounds-pages-at c = grind (arith, common_steps)

pub returns-in-Some-clause-within : goal.returns-in-Some-clause-within
returns-in-Some-clause-within c =
    λ k lt. on_page mark_if_made c.args.pages.now (Some (with_value c.in-Some.page c.set_marks.new.self)) c.args.at k (lent_of c).inside (omega arith)
    ∙ c.set_marks.ensures.within k lt

pub returns-in-Some-clause-others : goal.returns-in-Some-clause-others
returns-in-Some-clause-others c = λ k out. mark_kept (lent_of c) c.set_marks.new.self k
    (λ same. c.set_marks.ensures.others (k % 4096) (out_on_page c.args.at (length c.args.marks.now) k (omega arith) out same))

pub returns-in-Some-clause-bytes : goal.returns-in-Some-clause-bytes
returns-in-Some-clause-bytes c = λ k. byte_kept (lent_of c) c.set_marks.new.self k (λ _. c.set_marks.ensures.bytes (k % 4096))

pub returns-in-Some-clause-made : goal.returns-in-Some-clause-made
returns-in-Some-clause-made c = made_kept (lent_of c) c.set_marks.new.self
