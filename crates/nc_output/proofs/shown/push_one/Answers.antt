use Rattle.std.proofs.Common.{◌++◌, ◌∷◌, [], ℕ, List, ap, ◌∙◌, sym}
use Rattle.std.proofs.lemmas.Result.{on_ok_weaker}
use Rattle.nc_output.proofs.Added.{added_all}
use Rattle.nc_output.proofs.shown.push_one.Goals as goal

pub returns : goal.returns
returns c =
    on_ok_weaker c.extend_from_slice.result (λ e. e ∙ ap (λ (z : List ℕ). c.args.out.now.items ++ z) (sym c.shown.ensures))
    (added_all c.extend_from_slice.result _ _ (c.shown.result ∷ []) c.extend_from_slice.ensures.items)
