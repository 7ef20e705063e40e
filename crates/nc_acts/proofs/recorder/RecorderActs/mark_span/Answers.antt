use Rattle.std.proofs.Common.{arith}
use Rattle.std.proofs.lemmas.Grind.{common_steps}
use Rattle.nc_acts.proofs.recorder.RecorderActs.mark_span.Goals as goal

pub overflow_cast-marks : goal.overflow_cast-marks
overflow_cast-marks g c = grind (arith, common_steps)

pub returns-clause-logged : goal.returns-clause-logged
returns-clause-logged g c = c.record.ensures.logged

pub returns-clause-goes_on : goal.returns-clause-goes_on
returns-clause-goes_on g c = c.record.ensures.goes_on
