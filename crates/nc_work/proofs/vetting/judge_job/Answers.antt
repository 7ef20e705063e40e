use Rattle.nc_work.proofs.vetting.judge_job.Goals as goal
use Rattle.std.proofs.Common.{rules}

pub returns : goal.returns
returns c = search rules
