use Rattle.std.proofs.Common.{refl}
use Rattle.nc_host.proofs.vetted.nc_vetted_new.Goals as goal

pub returns-in-Ok-clause-at : goal.returns-in-Ok-clause-at
returns-in-Ok-clause-at c = λ _. refl
