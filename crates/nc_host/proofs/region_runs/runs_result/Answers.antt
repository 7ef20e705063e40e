use Rattle.std.proofs.Common.{◌≡◌, sym, subst}
use Rattle.nc_host_handles.specs.declared.fault.RunsFault.{RunsFault}
use Rattle.nc_host.specs.Running.{runs_number, runs_wanted}
use Rattle.nc_host.proofs.region_runs.runs_result.Goals as goal

pub returns-in-Err-NoChunk-clause-refused : goal.returns-in-Err-NoChunk-clause-refused
returns-in-Err-NoChunk-clause-refused c =
    let is = rw c.in-Err-NoChunk.is at c.in-Err-NoChunk.field-0-is in
    rw c.in-Err-NoChunk.is
    (subst (λ (f : RunsFault). c.no_change-in-Err-NoChunk.result ≡ record { fault = runs_number c.args.none f; at = 0; count = runs_wanted f })
    (sym is) c.no_change-in-Err-NoChunk.ensures)
