-- Machinery of the proofs, cited by no public contract: the effects of the calls on seats.
use Rattle.std.specs.Prelude.{◌≡◌, ◌≢◌, ℕ, ◌<◌, ◌≤◌, Bool, true, false, List, length, slice_get, slice_set, slice_index, slice_index_or}
use Rattle.std.specs.Prelude.{Option, Some, None}
use Rattle.nc_gens.specs.Seen.{PassState, KeeperState}
use Rattle.nc_region.specs.Region.{Region}

-- A pass checked in, and met the keeper before and after: its own word is the generation, and so is the keeper's bound for
-- it. The other bounds and the generation are unchanged.
pub record HasChecked (old : PassState) (before : KeeperState) (new : PassState) (after : KeeperState) : Type 0 where
  pub table : new.table ≡ old.table
  pub seat : new.seat ≡ old.seat
  pub word : new.numbers.word ≡ before.numbers.generation
  pub inside : old.seat < length before.numbers.bounds
  pub bounds : after.numbers.bounds ≡ slice_set before.numbers.bounds old.seat before.numbers.generation
  pub generation : after.numbers.generation ≡ before.numbers.generation
  pub keeper : after.table ≡ before.table

-- only the region's keeper changed, and its table and generation are the same
pub record IsOnlyKeeper (old new : Region) : Type 0 where
  pub others : new ≡ record old { keeper = new.keeper }
  pub table : new.keeper.table ≡ old.keeper.table
  pub generation : new.keeper.numbers.generation ≡ old.keeper.numbers.generation

-- this is the pass of a seat that hasn't left
abbrev pub HasPass : List (Option PassState) → ℕ → PassState → Type 0
HasPass passes seat p = slice_get passes seat ≡ Some (Some p)

-- there is no such seat, or it has left
abbrev pub HasNoPass : List (Option PassState) → ℕ → Type 0
HasNoPass passes seat = (p : PassState) → ¬ HasPass passes seat p

-- a seat checked in
pub record HasCheckedAt (seat : ℕ) (old : List (Option PassState)) (before : Region) (new : List (Option PassState))
    (after : Region) : Type 0 where
  pub pass : PassState
  pub now : PassState
  pub there : HasPass old seat pass
  pub seated : pass.seat ≡ seat
  pub passes : new ≡ slice_set old seat (Some now)
  pub checked : HasChecked pass before.keeper now after.keeper
  pub others : after ≡ record before { keeper = after.keeper }

-- the result and the effect of a check-in: nothing changes if there is no such seat, or it has left
abbrev pub ChecksIn : Bool → ℕ → List (Option PassState) → Region → List (Option PassState) → Region → Type 0
ChecksIn true seat old before new after = HasCheckedAt seat old before new after
ChecksIn false seat old before new after = HasNoPass old seat × (new ≡ old) × (after ≡ before)

-- the pass of a seat was taken away
abbrev pub IsTaken : ℕ → List (Option PassState) → List (Option PassState) → PassState → Type 0
IsTaken seat old new p = HasPass old seat p × (new ≡ slice_set old seat None)

-- the result and the effect of a leave: nothing changes if there is no such seat, or it has left
abbrev pub Leaves : Bool → ℕ → List (Option PassState) → List (Option PassState) → Type 0
Leaves true seat old new = (p : PassState) × IsTaken seat old new p
Leaves false seat old new = HasNoPass old seat × (new ≡ old)

-- A pass and the keeper's bound for its seat, before and after they met: the bound wasn't above the pass's own word, and is
-- that word now. If there is no pass, the bound is unchanged.
abbrev pub HasMetAt : Option PassState → ℕ → Option PassState → ℕ → Type 0
HasMetAt None before None after = after ≡ before
HasMetAt (Some p) before (Some q) after = (before ≤ p.numbers.word) × (after ≡ p.numbers.word) × (q.numbers.word ≡ p.numbers.word)
HasMetAt _ before _ after = ⊥

-- the pass of one seat met the keeper; the others are as before
pub record HasMetOne (seat : ℕ) (old : List (Option PassState)) (before : List ℕ) (new : List (Option PassState))
    (after : List ℕ) : Type 0 where
  pub passes_long : length new ≡ length old
  pub bounds_long : length after ≡ length before
  pub here : HasMetAt (slice_index_or old seat None) (slice_index before seat) (slice_index_or new seat None) (slice_index after seat)
  pub passes : (i : ℕ) → i ≢ seat → slice_index_or new i None ≡ slice_index_or old i None
  pub bounds : (i : ℕ) → i ≢ seat → slice_index after i ≡ slice_index before i

-- the passes of the seats below one met the keeper; the others are as before
pub record HaveMetBelow (seat : ℕ) (old : List (Option PassState)) (before : List ℕ) (new : List (Option PassState))
    (after : List ℕ) : Type 0 where
  pub passes_long : length new ≡ length old
  pub bounds_long : length after ≡ length before
  pub each : (i : ℕ) → i < seat
      → HasMetAt (slice_index_or old i None) (slice_index before i) (slice_index_or new i None) (slice_index after i)
  pub passes : (i : ℕ) → seat ≤ i → slice_index_or new i None ≡ slice_index_or old i None
  pub bounds : (i : ℕ) → seat ≤ i → slice_index after i ≡ slice_index before i

-- the passes of all seats met the keeper
pub record HaveMet (old : List (Option PassState)) (before : List ℕ) (new : List (Option PassState)) (after : List ℕ) : Type 0 where
  pub passes_long : length new ≡ length old
  pub bounds_long : length after ≡ length before
  pub each : (i : ℕ) → i < length old
      → HasMetAt (slice_index_or old i None) (slice_index before i) (slice_index_or new i None) (slice_index after i)
