use Rattle.nc_host_law.proofs.Running.{creation, deletion, created_again, again}
use Rattle.nc_host_law.proofs.runs.law_of_runs.Goals as goal

pub returns-clause-creation : goal.returns-clause-creation
returns-clause-creation c = creation

pub returns-clause-deletion : goal.returns-clause-deletion
returns-clause-deletion c = deletion

pub returns-clause-created_again : goal.returns-clause-created_again
returns-clause-created_again c = created_again

pub returns-clause-again : goal.returns-clause-again
returns-clause-again c = again
