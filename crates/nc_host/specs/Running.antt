-- The numbers reported to a host if runs are refused.
use Rattle.std.specs.Prelude.{ℕ}
use Rattle.nc_host_handles.specs.declared.fault.RunsFault.{RunsFault}
use Rattle.nc_host_handles.specs.declared.fault.RunsFault.TheVariants.{NoChunk, NoRoom}
use Rattle.nc_host.specs.declared.fault_numbers.TheConstants.{NO_ROOM}

-- the number of a refusal of runs: `none` if there is no chunk, or NO_ROOM
abbrev pub runs_number : ℕ → RunsFault → ℕ
runs_number none NoChunk = none
runs_number none (NoRoom wanted) = NO_ROOM

-- the number of runs needed if the refusal is for no room; otherwise 0
abbrev pub runs_wanted : RunsFault → ℕ
runs_wanted NoChunk = 0
runs_wanted (NoRoom wanted) = wanted
