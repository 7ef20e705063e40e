use Rattle.nc_histories.proofs.lives.WithoutPatch.{lives}
use Rattle.nc_histories.proofs.lives.WithPatch.{lives_patched}
use Rattle.nc_histories.proofs.example.law_of_example.Goals as goal

pub returns-clause-lives : goal.returns-clause-lives
returns-clause-lives c = lives

pub returns-clause-patched : goal.returns-clause-patched
returns-clause-patched c = lives_patched
