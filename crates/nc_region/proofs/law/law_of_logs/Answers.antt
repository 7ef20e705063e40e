use Rattle.nc_acts.proofs.Offered.{created_acts, deleted_acts}
use Rattle.nc_region.proofs.patching.Told.{patch_acts}
use Rattle.nc_region.proofs.law.law_of_logs.Goals as goal

pub returns-clause-create : goal.returns-clause-create
returns-clause-create c = created_acts

pub returns-clause-delete : goal.returns-clause-delete
returns-clause-delete c = deleted_acts

pub returns-clause-patch : goal.returns-clause-patch
returns-clause-patch c = patch_acts
