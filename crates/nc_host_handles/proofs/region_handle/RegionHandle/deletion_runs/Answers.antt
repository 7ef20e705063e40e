use Rattle.std.proofs.Common.{rules, arith}
use Rattle.std.proofs.lemmas.Grind.{common_steps}
use Rattle.nc_host_handles.proofs.region_handle.RegionHandle.deletion_runs.Goals as goal

pub invariant_of-span : goal.invariant_of-span
invariant_of-span c = grind (arith, common_steps)

pub returns-clause-reported : goal.returns-clause-reported
returns-clause-reported c = search rules
