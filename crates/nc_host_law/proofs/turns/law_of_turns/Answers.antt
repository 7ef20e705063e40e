use Rattle.nc_host_law.proofs.Turning.{turns}
use Rattle.nc_host_law.proofs.Lives.{frees_next}
use Rattle.nc_host_law.proofs.turns.law_of_turns.Goals as goal

pub returns-clause-turns : goal.returns-clause-turns
returns-clause-turns c = turns

pub returns-clause-lives : goal.returns-clause-lives
returns-clause-lives c = frees_next
