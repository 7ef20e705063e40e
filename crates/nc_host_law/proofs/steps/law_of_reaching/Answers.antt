use Rattle.nc_host_law.proofs.Going.{makes_next, loads, patches, begins, again, restarts, anew, ends, calls, reclaims, asks, fails, runs}
use Rattle.nc_host_law.proofs.Making.{create_by_host, patch_by_host, buffer_by_host}
use Rattle.nc_host_law.proofs.steps.law_of_reaching.Goals as goal

pub returns-clause-makes : goal.returns-clause-makes
returns-clause-makes c = makes_next

pub returns-clause-loads : goal.returns-clause-loads
returns-clause-loads c = loads

pub returns-clause-patches : goal.returns-clause-patches
returns-clause-patches c = patches

pub returns-clause-begins : goal.returns-clause-begins
returns-clause-begins c = begins

pub returns-clause-again : goal.returns-clause-again
returns-clause-again c = again

pub returns-clause-buffers : goal.returns-clause-buffers
returns-clause-buffers c = buffer_by_host

pub returns-clause-changes : goal.returns-clause-changes
returns-clause-changes c = λ v text at news. (create_by_host v, patch_by_host text at news)

pub returns-clause-restarts : goal.returns-clause-restarts
returns-clause-restarts c = restarts

pub returns-clause-anew : goal.returns-clause-anew
returns-clause-anew c = anew

pub returns-clause-ends : goal.returns-clause-ends
returns-clause-ends c = ends

pub returns-clause-calls : goal.returns-clause-calls
returns-clause-calls c = calls

pub returns-clause-reclaims : goal.returns-clause-reclaims
returns-clause-reclaims c = reclaims

pub returns-clause-asks : goal.returns-clause-asks
returns-clause-asks c = asks

pub returns-clause-fails : goal.returns-clause-fails
returns-clause-fails c = fails

pub returns-clause-runs : goal.returns-clause-runs
returns-clause-runs c = runs
