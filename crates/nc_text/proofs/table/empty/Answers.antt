use Rattle.std.proofs.Common.{◌≡◌, ℕ, List, [], ◌∷◌, ◌++◌, None, replicate, ap, ◌∙◌, arith}
use Rattle.std.proofs.lemmas.List.{replicate_more}
use Rattle.nc_text.specs.machinery.Pages.{Slot}
use Rattle.nc_text.proofs.table.empty.Goals as goal

pub loop-page-preserved : goal.loop-page-preserved
loop-page-preserved c = c.in_ok-push.ensures.items ∙ ap (λ (pages : List Slot). pages ++ None ∷ []) c.loop-page.invariant
    ∙ replicate_more c.loop-page._page None

pub returns : goal.returns
returns c =
    let end : c.loop-page._page ≡ c.args.n = omega arith in
    c.loop-page.invariant ∙ ap (λ (n : ℕ). replicate {A = Slot} n None) end
