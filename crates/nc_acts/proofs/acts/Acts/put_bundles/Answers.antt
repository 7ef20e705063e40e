use Rattle.std.proofs.Common.{◌≡◌, true, false}
use Rattle.nc_acts.proofs.acts.Acts.put_bundles.Goals as goal

pub returns-clause-marked : goal.returns-clause-marked
returns-clause-marked g c = λ yes. absurd (let differ : false ≡ true = yes in cc)

pub returns-clause-logged : goal.returns-clause-logged
returns-clause-logged g c = λ yes. absurd (let differ : false ≡ true = yes in cc)
