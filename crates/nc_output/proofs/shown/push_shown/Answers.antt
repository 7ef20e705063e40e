use Rattle.std.proofs.Common.{◌++◌, ℕ, List, ap, ◌∙◌, sym}
use Rattle.std.proofs.lemmas.Result.{on_ok_weaker}
use Rattle.nc_output.proofs.Added.{added_all}
use Rattle.nc_output.proofs.Additions.{shown_same}
use Rattle.nc_output.proofs.shown.push_shown.Goals as goal

pub returns-then-are_shown : goal.returns-then-are_shown
returns-then-are_shown c =
    let same = shown_same c.args.text.now (sym c.are_shown.ensures ∙ c.if-are_shown.true) in
    on_ok_weaker c.extend_from_slice.result (λ e. e ∙ ap (λ (z : List ℕ). c.args.out.now.items ++ z) (sym same))
    (added_all c.extend_from_slice.result _ _ c.args.text.now c.extend_from_slice.ensures.items)
