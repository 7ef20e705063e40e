use Rattle.std.specs.Prelude.{Some}
use mathlib.Core.Path.{refl}
use denote.RattleType.{RattleType}
use denote.Param.Send.{IsSend, IsSync, sendable}
use Rattle.std.specs.contracts.marker.Brand as brand
use Rattle.std.proofs.sync.Mutex.TheSendSync as mutex
use Rattle.nc_region.specs.Region.{Region}
use Rattle.nc_region.specs.Locks.{lock_row}
use Rattle.nc_region.specs.declared.lock.ruled.HasRegion as region
use Rattle.nc_region.specs.contracts.lock.ruled.Ruled as inside
use Rattle.nc_region.specs.contracts.lock.Lock.{the_row}

value_send : (T : RattleType) (g : region.Ghosts T.Denot) (first : Region) → IsSend T
    → IsSend (inside.the_row T brand.the_row g (record { first = Some first; one = record {}; only = λ x y. refl }))
value_send T g first s = search sendable depth 20

lock_sync : (T : RattleType) (g : region.Ghosts T.Denot) (first : Region) → IsSend T → IsSync (lock_row T g.region first)
lock_sync T g first s = search (sendable, mutex.the_sync, value_send) depth 20

pub sync : (T : RattleType) (g : region.Ghosts T.Denot) → IsSend T → IsSync (the_row T g)
sync T g s = record { shared = λ x b o. (lock_sync T g x s).shared (record { mutex = tt }) b o }
