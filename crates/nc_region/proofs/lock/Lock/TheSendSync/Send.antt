use Rattle.std.specs.Prelude.{Some}
use mathlib.Core.Path.{refl}
use denote.RattleType.{RattleType}
use denote.Param.Send.{IsSend, sendable}
use Rattle.std.specs.contracts.marker.Brand as brand
use Rattle.std.proofs.sync.Mutex.TheSendSync as mutex
use Rattle.nc_region.specs.Region.{Region}
use Rattle.nc_region.specs.Locks.{lock_row}
use Rattle.nc_region.specs.declared.lock.ruled.HasRegion as region
use Rattle.nc_region.specs.contracts.lock.ruled.Ruled as inside
use Rattle.nc_region.specs.contracts.lock.Lock.{the_row}

value_send : (T : RattleType) (g : region.Ghosts T.Denot) (first : Region) → IsSend T
    → IsSend (inside.the_row T brand.the_row g (record { first = Some first; one = record {}; only = λ x y. refl }))
value_send T g first s = search sendable depth 20

lock_send : (T : RattleType) (g : region.Ghosts T.Denot) (first : Region) → IsSend T → IsSend (lock_row T g.region first)
lock_send T g first s = search (sendable, mutex.the_send, value_send) depth 20

pub send : (T : RattleType) (g : region.Ghosts T.Denot) → IsSend T → IsSend (the_row T g)
send T g s = record { owned = λ x vs. ((λ _. tt), (lock_send T g x s).owned (record { mutex = tt }) vs); leaving = λ k d w. tt }
