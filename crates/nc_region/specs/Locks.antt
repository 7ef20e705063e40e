-- What a lock over a region owns and lends.
use Rattle.std.specs.Prelude.{List, Some}
use mathlib.Core.Path.{refl}
use mir.Val.{Val}
use base.Fml.{Fml, Lft, ffalse}
use denote.RattleType.{RattleType}
use denote.RawPtr.{Ptr, block_ptr, null_ptr}
use Rattle.std.specs.contracts.marker.Brand as brand
use Rattle.nc_region.specs.contracts.lock.ruled.RuledLock as ruled
use Rattle.nc_region.specs.Region.{Region}

module _ (R : RattleType) (region : R.Denot → Region) (first : Region) where
  -- the lock over a value whose region was reached from the first one
  abbrev pub lock_row : RattleType
  lock_row = ruled.the_row R brand.the_row (record { region = region }) (record { first = Some first; one = record {}; only = λ x y. refl })

  -- what such a lock owns
  abbrev pub lock_owns : List Val → Fml
  lock_owns = lock_row.own_val (record { mutex = tt })

  -- what a `&` to such a lock holds
  abbrev pub lock_shares : Ptr → Lft → Fml
  lock_shares (block_ptr b o) κ = lock_row.shr_at (record { mutex = tt }) b o κ
  lock_shares null_ptr κ = ffalse
