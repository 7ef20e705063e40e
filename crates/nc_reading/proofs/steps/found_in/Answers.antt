use Rattle.std.proofs.Common.{ap, refl, Err}
use Rattle.nc_reading.proofs.steps.found_in.Goals as goal

pub returns-in-Ok : goal.returns-in-Ok
returns-in-Ok c = c.found_at.ensures c.args.window.now ((c.in-Ok.ensures.found c.in-Ok.instr).0 refl)

pub returns-in-Err-Truncated : goal.returns-in-Err-Truncated
returns-in-Err-Truncated c = c.in-Err-Truncated.ensures.truncated.0 (ap (λ e. Err e) c.in-Err-Truncated.field-0-is)

pub returns-in-Err-NotPermitted : goal.returns-in-Err-NotPermitted
returns-in-Err-NotPermitted c = c.in-Err-NotPermitted.ensures.refused.0 (ap (λ e. Err e) c.in-Err-NotPermitted.field-0-is)
