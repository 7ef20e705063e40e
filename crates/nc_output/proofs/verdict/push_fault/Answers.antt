use Rattle.nc_output.proofs.verdict.push_fault.Goals as goal
use Rattle.std.proofs.Common.{◌∷◌, []}
use Rattle.std.specs.Prelude.{codes}
use Rattle.nc_output.specs.Verdicts.{fault_words}
use Rattle.nc_output.proofs.Added.{three_added}

pub returns : goal.returns
returns c =
    let words = three_added c.args.out.now.items (codes "refused ") (fault_words c.args.fault) (10 ∷ []) _ _ _
    c.in_ok-extend_from_slice.ensures.items c.in_ok-push_name.ensures.1 c.in_ok-push.ensures.items in
    (c.in_ok-push_name.ensures.0, words)
