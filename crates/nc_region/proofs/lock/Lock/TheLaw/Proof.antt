-- A `&` to the lock is made of a borrow of it, as it is for a lock under the rule.
use Rattle.std.proofs.Common.{refl, Some}
use denote.RattleType.{RattleType}
use denote.Memory.{part_of}
use denote.Param.Laws.{Laws}
use Rattle.std.specs.contracts.marker.Brand as brand
use Rattle.std.proofs.marker.Brand.TheLaws as brand_laws
use Rattle.nc_region.specs.Region.{Region}
use Rattle.nc_region.specs.Locks.{lock_row}
use Rattle.nc_region.specs.declared.lock.ruled.HasRegion as region
use Rattle.nc_region.proofs.lock.ruled.RuledLock.TheLaws as ruled
use Rattle.nc_region.proofs.lock.Lock.TheLaw.Statement.{statement}

law : (T : RattleType) (g : region.Ghosts T.Denot) (L : Laws T) (first : Region) → Laws (lock_row T g.region first)
law T g L first =
    ruled.the_row_laws T brand.the_row g (record { first = Some first; one = record {}; only = λ x y. refl }) L brand_laws.the_row_laws

pub shares : (T : RattleType) (g : region.Ghosts T.Denot) (L : Laws T) → statement T g L
unfolding part_of
shares T g L = record {
  shr_laws = λ d b o. (law T g L d).shr_laws (record { mutex = tt }) b o;
  shares = λ M 𝓤 𝓛 d κ ts b o inc sp. (law T g L d).shares 𝓛 (record { mutex = tt }) κ ts b o inc sp;
}
