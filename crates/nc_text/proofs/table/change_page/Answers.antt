use Rattle.std.proofs.Common.{◌≡◌, ℕ, ◌+◌, ◌/◌, ◌%◌, ◌<◌, List, Some, arith, ap, sym, ◌∙◌}
use Rattle.std.proofs.lemmas.Grind.{common_steps}
use Rattle.std.specs.Prelude.{Box}
use Rattle.std.specs.Box.{with_value}
use Rattle.std.specs.declared.alloc.Global.{Global}
use Rattle.nc_decode.specs.declared.instruction.Mark.{Mark}
use Rattle.nc_text.specs.declared.page.Page.{Page}
use Rattle.nc_text.specs.machinery.Pages.{Slot, byte_on, mark_on, byte_if_made, mark_if_made, byte_of, mark_in_pages}
use Rattle.nc_text.proofs.Tables.{IsLentPage, lent_page, made_within, byte_kept, made_kept, mark_kept, on_page, out_on_page, same_page}
use Rattle.nc_text.proofs.table.change_page.Given.{Over}
use Rattle.nc_text.proofs.table.change_page.Goals as goal

-- the byte at a place of a page, as a byte of its table
byte_before : {pages : List Slot} {boxed : Box Page Global} {page : Page} (at k : ℕ) → IsLentPage pages (at / 4096) boxed page
    → at % 4096 + k < 4096 → byte_on page (at % 4096 + k) ≡ byte_of pages (at + k)
byte_before {pages = pages} at k is small =
    ap (λ (p : Page). byte_on p (at % 4096 + k)) is.loan
    ∙ (ap (λ (o : Slot). byte_if_made o (at % 4096 + k)) (sym is.slot) ∙ sym (same_page byte_if_made pages at k small))

-- the mark at a place of a page, as a mark of its table
mark_before : {pages : List Slot} {boxed : Box Page Global} {page : Page} (at k : ℕ) → IsLentPage pages (at / 4096) boxed page
    → at % 4096 + k < 4096 → mark_on page (at % 4096 + k) ≡ mark_in_pages pages (at + k)
mark_before {pages = pages} at k is small =
    ap (λ (p : Page). mark_on p (at % 4096 + k)) is.loan
    ∙ (ap (λ (o : Slot). mark_if_made o (at % 4096 + k)) (sym is.slot) ∙ sym (same_page mark_if_made pages at k small))

-- what is given by the mark and the byte is the same if these are
given_before : {X : Type 0} (given : Mark → ℕ → X) (m n : Mark) (b d : ℕ) → m ≡ n → b ≡ d → given m b ≡ given n d
given_before given m n b d mark byte = ap (λ (x : Mark). given x b) mark ∙ ap (λ (x : ℕ). given n x) byte

-- the page of the place was lent
lent_of : (g : Over) (c : goal.After-pages-1 g) → IsLentPage c.args.pages.now (c.args.at / 4096) c.in-Some.page c.deref_mut.result.now
lent_of g c = lent_page c.index-pages-at.result (made_within c.args.pages.now (c.args.at / 4096) c.requires.ready) c.in-Some.is
    c.deref_mut.ensures.value

pub bounds-pages-at : goal.bounds-pages-at
bounds-pages-at g c = grind (arith, common_steps)

pub returns-in-Some-clause-bytes : goal.returns-in-Some-clause-bytes
returns-in-Some-clause-bytes g c =
    λ k lt.
    let lent = lent_of g c in
    let small : c.args.at % 4096 + k < 4096 = omega arith in
    on_page byte_if_made c.args.pages.now (Some (with_value c.in-Some.page c.make.new.page)) c.args.at k lent.inside small
    ∙ (c.make.ensures.bytes k lt ∙ given_before (g.C.Change.byte c.args.what.now (c.args.from + k)) _ _ _ _
    (mark_before c.args.at k lent small) (byte_before c.args.at k lent small))

pub returns-in-Some-clause-marks : goal.returns-in-Some-clause-marks
returns-in-Some-clause-marks g c =
    λ k lt.
    let lent = lent_of g c in
    let small : c.args.at % 4096 + k < 4096 = omega arith in
    on_page mark_if_made c.args.pages.now (Some (with_value c.in-Some.page c.make.new.page)) c.args.at k lent.inside small
    ∙ (c.make.ensures.marks k lt ∙ ap (λ (m : Mark). g.C.Change.mark c.args.what.now (c.args.from + k) m) (mark_before c.args.at k lent small))

pub returns-in-Some-clause-other_bytes : goal.returns-in-Some-clause-other_bytes
returns-in-Some-clause-other_bytes g c = λ k out. byte_kept (lent_of g c) c.make.new.page k
    (λ same. c.make.ensures.other_bytes (k % 4096) (out_on_page c.args.at c.args.len k (omega arith) out same))

pub returns-in-Some-clause-other_marks : goal.returns-in-Some-clause-other_marks
returns-in-Some-clause-other_marks g c = λ k out. mark_kept (lent_of g c) c.make.new.page k
    (λ same. c.make.ensures.other_marks (k % 4096) (out_on_page c.args.at c.args.len k (omega arith) out same))

pub returns-in-Some-clause-made : goal.returns-in-Some-clause-made
returns-in-Some-clause-made g c = made_kept (lent_of g c) c.make.new.page
