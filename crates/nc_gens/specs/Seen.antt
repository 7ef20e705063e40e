-- A pass and the keeper as contracts see them. A `Gens` is seen only as the identity of its table.
use Rattle.std.specs.Prelude.{◌≡◌, ℕ, zero, suc, ◌+◌, ◌-◌, ◌++◌, ◌<◌, ◌≤◌, ◌==◌, not, min, fold, filter, List, [], ◌∷◌, length, map, slice_index}
use Rattle.std.specs.List.{range_with_len}
use Rattle.atomic_table.specs.Seated.{TableId}
use Rattle.nc_gens.specs.declared.view.PassNumbers.{PassNumbers}
use Rattle.nc_gens.specs.declared.view.KeeperNumbers.{KeeperNumbers}
use Rattle.nc_gens.specs.declared.view.WordStep.{WordStep}
use Rattle.nc_gens.specs.declared.view.WordStep.TheVariants.{TookGeneration, SawGeneration, StoredSince, AddedOne, TookWord}
use Rattle.nc_gens.specs.Trail.{Adds, NoneSince, is_by_pass, is_by_keeper, numbers_by, pass_in, IsRising}
use Rattle.nc_gens.specs.Progress.{HasFound}
use Rattle.nc_gens.specs.Rule.{generation_raised, left_word, last_generation, first_pass_numbers, first_keeper_numbers, generation_taken, since_stored, generation_seen, word_taken}

-- a table has 1 to 256 seats
abbrev pub AreSeats : ℕ → Type 0
AreSeats seats = (1 ≤ seats) × (seats ≤ 256)

-- a pass as contracts see it: its table (that of the `Gens` made with it), seat and numbers, and the trail of the words up to
-- its last step
pub record PassState : Type 0 where
  pub table : TableId
  pub seat : ℕ
  pub numbers : PassNumbers
  pub trail : List WordStep

-- the pass has taken these steps, and has the numbers that the trail leads to
pub record PassSteps (old new : PassState) (steps : List WordStep) : Type 0 where
  pub adds : Adds (is_by_pass old.seat) old.trail new.trail steps
  pub led_to : new.numbers ≡ pass_in (numbers_by (old.table.words - 1) new.trail) old.seat

-- A pass after a check-in. The number stored is the number loaded, which is the generation by its trail, and no less than the one
-- stored before or any generation that the pass had seen. The table and the seat are the same.
pub record HasCheckedIn (old new : PassState) : Type 0 where
  pub same : (new.table ≡ old.table) × (new.seat ≡ old.seat)
  -- The generation is loaded once, and stored once.
  pub numbers : new.numbers ≡ since_stored (generation_taken new.numbers.since old.numbers)
  pub loads : new.numbers.loads ≡ old.numbers.loads + 1
  pub published : new.numbers.word ≡ new.numbers.since
  pub rises : old.numbers.since ≤ new.numbers.since
  pub catches_up : old.numbers.seen ≤ new.numbers.since
  pub steps : PassSteps old new (TookGeneration old.seat ∷ StoredSince old.seat ∷ [])

-- the keeper as contracts see it: its table and numbers, and the trail of the words up to its last step
pub record KeeperState : Type 0 where
  pub table : TableId
  pub numbers : KeeperNumbers
  pub trail : List WordStep

-- the keeper has the numbers that its trail leads to
abbrev pub IsLedTo : KeeperState → Type 0
IsLedTo k = k.numbers ≡ (numbers_by (length k.numbers.bounds) k.trail).keeper

-- The keeper has taken these steps, and has bounds for as many seats as before. If its numbers fitted its trail, they still do.
pub record KeeperSteps (old new : KeeperState) (steps : List WordStep) : Type 0 where
  pub adds : Adds is_by_keeper old.trail new.trail steps
  pub seats : length new.numbers.bounds ≡ length old.numbers.bounds
  pub led_to : IsLedTo old → IsLedTo new

-- the keeper after it has added one to the generation, a step that its trail has gained
pub record HasRaised (old new : KeeperState) : Type 0 where
  pub others : new ≡ record old { numbers = generation_raised old.numbers; trail = new.trail }
  pub adds : Adds is_by_keeper old.trail new.trail (AddedOne ∷ [])

-- a new pass of a seat, with all numbers 0 and no step
abbrev pub first_pass : TableId → ℕ → PassState
first_pass table seat = record { table = table; seat = seat; numbers = first_pass_numbers; trail = [] }

-- the new passes of the seats below a number, in order
abbrev pub new_passes : TableId → ℕ → List PassState
new_passes table zero = []
new_passes table (suc n) = new_passes table n ++ first_pass table n ∷ []

-- the new keeper of a table with this number of seats, with all numbers 0 and no step
abbrev pub first_keeper : TableId → ℕ → KeeperState
first_keeper table seats = record { table = table; numbers = first_keeper_numbers seats; trail = [] }

-- the bounds of the seats that the keeper doesn't count as left
abbrev pub staying : List ℕ → List ℕ
staying = filter (λ b. not (b == left_word))

-- the least number of a list, or `other` if the list is empty
abbrev pub least_or : ℕ → List ℕ → ℕ
least_or other [] = other
least_or other (b ∷ bs) = fold min b bs

-- the least bound of the seats that the keeper doesn't count as left, or the generation if there are none
abbrev pub least_number : KeeperNumbers → ℕ
least_number k = least_or k.generation (staying k.bounds)

-- the lists have the same length, and no number is lower than before
abbrev pub Raised : List ℕ → List ℕ → Type 0
Raised old new = (length new ≡ length old) × ((i : ℕ) → i < length old → slice_index old i ≤ slice_index new i)

-- the lists have the same length, and each number is one more than before
abbrev pub RaisedByOne : List ℕ → List ℕ → Type 0
RaisedByOne old new = (length new ≡ length old) × ((i : ℕ) → i < length old → slice_index new i ≡ slice_index old i + 1)

-- The keeper after a look: table and generation are unchanged, each seat's word was loaded once, in the order of the seats, and no
-- bound decreased. By the trail (`HasFound`, `IsLedTo`), in which no word falls, each bound is what its seat stored last before the
-- load, or 0.
pub record HasLooked (old new : KeeperState) : Type 0 where
  pub table : new.table ≡ old.table
  pub generation : new.numbers.generation ≡ old.numbers.generation
  pub looks : RaisedByOne old.numbers.looks new.numbers.looks
  pub counted : length new.numbers.looks ≡ length new.numbers.bounds
  pub raised : Raised old.numbers.bounds new.numbers.bounds
  pub steps : KeeperSteps old new (map TookWord (range_with_len 0 (length new.numbers.bounds)))
  pub led_to : IsLedTo new
  pub rising : IsRising (length new.numbers.bounds) new.trail
  pub found : (k : ℕ) → k < length new.numbers.bounds
      → HasFound (length new.numbers.bounds) old.trail new.trail k (slice_index new.numbers.bounds k)

-- A pass and the keeper after they met. The pass has seen the generation, and its `since` is unchanged. The keeper's bound for the seat
-- hasn't decreased and is the pass's own word. The word is at most the pass's `since`, `since` at most the generation, and the generation
-- at most 2^62. The keeper's trail continues the pass's, which has taken no step since.
pub record HasMet (old : PassState) (before : KeeperState) (new : PassState) (after : KeeperState) : Type 0 where
  pub pass : new ≡ record old { numbers = generation_seen before.numbers.generation old.numbers; trail = new.trail }
  pub keeper : after ≡ record before { numbers = word_taken old.seat old.numbers.word before.numbers; trail = after.trail }
  pub inside : old.seat < length before.numbers.bounds
  pub raised : slice_index before.numbers.bounds old.seat ≤ new.numbers.word
  pub bound : slice_index after.numbers.bounds old.seat ≡ new.numbers.word
  pub word : new.numbers.word ≤ new.numbers.since
  pub since : new.numbers.since ≤ after.numbers.generation
  pub seen : new.numbers.seen ≡ after.numbers.generation
  pub in_range : after.numbers.generation ≤ last_generation
  pub together : NoneSince (is_by_pass old.seat) new.trail after.trail
  pub steps_of_pass : PassSteps old new (SawGeneration old.seat ∷ [])
  pub steps_of_keeper : KeeperSteps before after (TookWord old.seat ∷ [])
  pub led_to : IsLedTo after
  pub rising : IsRising (length after.numbers.bounds) after.trail
