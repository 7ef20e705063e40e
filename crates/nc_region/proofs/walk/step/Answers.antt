use Rattle.std.proofs.Common.{◌∷◌}
use Rattle.std.proofs.lemmas.Result.{err_from_is_err_and}
use Rattle.nc_region.proofs.walk.step.Goals as goal

pub returns-in_err-instr-clause-ends : goal.returns-in_err-instr-clause-ends
returns-in_err-instr-clause-ends g c =
    let p = err_from_is_err_and c.from_residual.result c.from_residual.ensures.1 in
    rw (p.1, p.2) (λ rest. c.in_err-instr.ensures.ends (c.args.choice ∷ rest))
