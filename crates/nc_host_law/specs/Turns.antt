-- Where a host can go from a state.
use Rattle.std.specs.Prelude.{ℕ, []}
use Rattle.nc_decode.specs.Bundles.{limit_after}
use Rattle.nc_region.specs.schedules.World.{first_world}
use Rattle.nc_host_handles.specs.RegionHandle.{RegionHandleState}
use Rattle.nc_host_law.specs.Hosts.{Host, IsHostStep, IsReached}

-- a host with a new handle of a region of this many bundles, for this number of seats
abbrev pub new_host : ℕ → ℕ → RegionHandleState → Host
new_host bundles seats handle =
    record { handle = handle; world = first_world (limit_after bundles) seats; steps = []; pending = []; announced = [] }

-- The host goes from one state to the other by steps, none or more, and each state on the way can be reached.
pub data GoesOn (bundles seats : ℕ) (from : Host) : Host → Type 0 where
  Here : IsReached bundles seats from → GoesOn bundles seats from from
  Further : {old new : Host} → GoesOn bundles seats from old → IsHostStep seats old new → IsReached bundles seats new
      → GoesOn bundles seats from new
