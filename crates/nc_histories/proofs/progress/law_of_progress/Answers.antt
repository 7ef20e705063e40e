use Rattle.nc_histories.proofs.Progressing.{frees_passed}
use Rattle.nc_histories.proofs.progress.law_of_progress.Goals as goal

pub returns : goal.returns
returns c = frees_passed
