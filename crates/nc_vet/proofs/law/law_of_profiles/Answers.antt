use Rattle.nc_vet.proofs.KeptValid.{kept_valid}
use Rattle.nc_vet.proofs.law.law_of_profiles.Goals as goal

pub returns : goal.returns
returns c = kept_valid
