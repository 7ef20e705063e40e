use Rattle.std.proofs.Common.{refl}
use Rattle.nc_text.proofs.HeadlineStates.{path_stands, path_more}
use Rattle.nc_text.proofs.law.law_of_paths.Goals as goal

pub returns-clause-stands : goal.returns-clause-stands
returns-clause-stands c = path_stands

pub returns-clause-begins : goal.returns-clause-begins
returns-clause-begins c = λ text at low high start. ((low, high), start, refl, tt)

pub returns-clause-goes_on : goal.returns-clause-goes_on
returns-clause-goes_on c = path_more
