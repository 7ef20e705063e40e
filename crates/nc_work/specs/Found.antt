-- Machinery, cited by no public contract: what workers have found, and the places that it is put into.
use Rattle.std.specs.Prelude.{ℕ, List, All, slice_index_or, Option, Some, None}
use Rattle.std.specs.Borrow.{MutBor}
use denote.Param.Members.{Shared}
use Rattle.nc_work.specs.declared.pool.Done.{Done}
use Rattle.nc_work.specs.Places.{FitsPlace}

-- what a worker has found: each outcome is one of its place
pub record AreDone {F S R : Type 0} (g : Shared F (ℕ × (MutBor S × Unit {0})) (Option R × (MutBor S × Unit {0}))) (f : F)
    (done : List (Done R)) : Type 0 where
  pub each : All (λ d. FitsPlace g f d.place (Some d.outcome)) done

-- each place is empty, or has an outcome of its own
pub record ArePlaces {F S R : Type 0} (g : Shared F (ℕ × (MutBor S × Unit {0})) (Option R × (MutBor S × Unit {0}))) (f : F)
    (places : List (Option R)) : Type 0 where
  pub each : (k : ℕ) → FitsPlace g f k (slice_index_or places k None)
