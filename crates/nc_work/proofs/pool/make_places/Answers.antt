use Rattle.std.proofs.lemmas.Result.{IfOk-from_err}
use Rattle.nc_work.proofs.pool.make_places.Goals as goal

pub returns-in_err-push-clause-len : goal.returns-in_err-push-clause-len
returns-in_err-push-clause-len g c = IfOk-from_err _ _ c.from_residual-in_err-push.ensures.0

pub returns-in_err-push-clause-none : goal.returns-in_err-push-clause-none
returns-in_err-push-clause-none g c = IfOk-from_err _ _ c.from_residual-in_err-push.ensures.0
