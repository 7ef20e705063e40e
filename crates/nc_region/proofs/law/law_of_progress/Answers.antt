use Rattle.nc_region.proofs.deleting.Progress.{before_reclaim, progressed}
use Rattle.nc_region.proofs.law.law_of_progress.Goals as goal

pub returns-clause-before : goal.returns-clause-before
returns-clause-before c = before_reclaim

pub returns-clause-freed : goal.returns-clause-freed
returns-clause-freed c = progressed
