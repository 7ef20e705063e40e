use Rattle.nc_host.proofs.Accepted.{only_eight}
use Rattle.nc_host.proofs.lent_vet.nc_host_vet.Goals as goal

pub returns-in-Err-clause-valid : goal.returns-in-Err-clause-valid
returns-in-Err-clause-valid c = λ marks valid. only_eight c.in-Err.verdict.fault (c.in-Err.ensures.exact marks valid)
