use Rattle.std.proofs.Common.{refl}
use Rattle.nc_text.proofs.page.Page.put.Goals as goal

pub returns-clause-marks : goal.returns-clause-marks
returns-clause-marks c = λ _. refl
