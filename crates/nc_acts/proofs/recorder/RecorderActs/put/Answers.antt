use Rattle.std.proofs.Common.{rules, arith}
use Rattle.std.proofs.lemmas.Grind.{common_steps}
use Rattle.nc_acts.proofs.recorder.RecorderActs.put.Goals as goal

pub returns-clause-whole : goal.returns-clause-whole
returns-clause-whole g c = grind (arith, common_steps)

pub returns-clause-logged : goal.returns-clause-logged
returns-clause-logged g c = search rules

pub returns-clause-goes_on : goal.returns-clause-goes_on
returns-clause-goes_on g c = search rules
