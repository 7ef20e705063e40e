-- Passes that check in, one after the other.
use Rattle.std.specs.Prelude.{◌≡◌, ℕ, List, [], All, length, map, take}
use Rattle.std.specs.List.{AllWithin}
use Rattle.atomic_table.specs.Seated.{TableId}
use Rattle.nc_gens.specs.Seen.{PassState, Raised, KeeperSteps}
use Rattle.nc_region.specs.Region.{Region}
use Rattle.nc_histories.specs.Steps.{word_steps}
use Rattle.nc_host_handles.specs.RegionHandle.{IsIn, meetings}

-- The first `count` of the passes have checked in, and the keeper has met them.
pub record HasAttended (gens : TableId) (old : Region) (before : List PassState) (new : Region) (now : List PassState) (count : ℕ) : Type 0 where
  pub others : new ≡ record old { keeper = new.keeper }
  pub table : new.keeper.table ≡ gens
  pub generation : new.keeper.numbers.generation ≡ old.keeper.numbers.generation
  pub raised : Raised old.keeper.numbers.bounds new.keeper.numbers.bounds
  pub as_many : length now ≡ length before
  pub tables : All (λ (p : PassState). p.table ≡ gens) now
  pub seats : map (λ (p : PassState). p.seat) now ≡ map (λ (p : PassState). p.seat) before
  pub steps : KeeperSteps old.keeper new.keeper (word_steps (meetings (take count before)))
  pub unmet : before ≡ [] → new ≡ old
  pub inside : AllWithin (IsIn new old.keeper.numbers.generation) now 0 count
