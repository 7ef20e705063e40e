use Rattle.std.proofs.Common.{refl}
use Rattle.nc_host_handles.proofs.run_calls.runs_of.Goals as goal

pub returns : goal.returns
returns c = refl
