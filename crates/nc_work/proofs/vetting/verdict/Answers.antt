use Rattle.nc_work.proofs.vetting.verdict.Goals as goal
use Rattle.std.proofs.Common.{rules}

pub returns-in-Err : goal.returns-in-Err
returns-in-Err c = search rules
