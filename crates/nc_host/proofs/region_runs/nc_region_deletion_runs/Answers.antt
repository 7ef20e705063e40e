use Rattle.std.proofs.Common.{length}
use Rattle.nc_host_handles.specs.declared.fault.RunsFault.{RunsFault}
use Rattle.nc_host_handles.specs.RegionHandle.{RegionHandleState}
use Rattle.nc_host_handles.specs.RunCalls.{MayRefuseDeletionRuns}
use Rattle.nc_host.proofs.Refusals.{runs_refusal}
use Rattle.nc_host.proofs.region_runs.nc_region_deletion_runs.Goals as goal

pub returns-clause-refused : goal.returns-clause-refused
returns-clause-refused c =
    runs_refusal c.args.region.now.value c.in-Some.handle.value c.deref.result.now
    (λ (h : RegionHandleState) (f : RunsFault). MayRefuseDeletionRuns h (length c.args.acts.now) f) 38 c.deletion_runs-reported.result
    c.runs_result.result c.in-Some.ensures.some c.deref.ensures c.deletion_runs-reported.ensures.refused c.runs_result.ensures.reported
    c.runs_result.ensures.refused
