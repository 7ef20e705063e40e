use Rattle.std.proofs.Common.{rules}
use Rattle.nc_acts.proofs.recorder.RecorderActs.serialize.Goals as goal

pub returns-clause-logged : goal.returns-clause-logged
returns-clause-logged g c = search rules

pub returns-clause-goes_on : goal.returns-clause-goes_on
returns-clause-goes_on g c = search rules
