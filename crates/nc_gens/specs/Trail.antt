-- The trail of a table: the atomic steps on its words, in their order, and the numbers that they lead to.
use Rattle.std.specs.Prelude.{◌≡◌, ℕ, ◌≤◌, ◌++◌, ◌==◌, Bool, true, false, List, [], ◌∷◌, filter, replicate, slice_index_or, slice_set}
use Rattle.nc_gens.specs.declared.view.PassNumbers.{PassNumbers}
use Rattle.nc_gens.specs.declared.view.KeeperNumbers.{KeeperNumbers}
use Rattle.nc_gens.specs.declared.view.WordStep.{WordStep}
use Rattle.nc_gens.specs.declared.view.WordStep.TheVariants.{TookGeneration, SawGeneration, StoredSince, StoredLeft, AddedOne, TookWord}
use Rattle.nc_gens.specs.Rule.{first_pass_numbers, first_keeper_numbers, generation_taken, generation_seen, since_stored, left_stored}
use Rattle.nc_gens.specs.Rule.{generation_raised, word_taken}

-- the step is one of the pass of this seat
abbrev pub is_by_pass : ℕ → WordStep → Bool
is_by_pass k (TookGeneration seat) = seat == k
is_by_pass k (SawGeneration seat) = seat == k
is_by_pass k (StoredSince seat) = seat == k
is_by_pass k (StoredLeft seat) = seat == k
is_by_pass k AddedOne = false
is_by_pass k (TookWord seat) = false

-- the step is one of the keeper
abbrev pub is_by_keeper : WordStep → Bool
is_by_keeper (TookGeneration seat) = false
is_by_keeper (SawGeneration seat) = false
is_by_keeper (StoredSince seat) = false
is_by_keeper (StoredLeft seat) = false
is_by_keeper AddedOne = true
is_by_keeper (TookWord seat) = true

-- One trail continues another. Of the steps that it adds, these pass the test. It adds none at all, or one of these is the last.
pub record Adds (mine : WordStep → Bool) (old new own : List WordStep) : Type 0 where
  pub later : List WordStep
  pub all : new ≡ old ++ later
  pub own_are : filter mine later ≡ own
  pub ends : (others : List WordStep) (last : WordStep) → later ≡ others ++ last ∷ [] → mine last ≡ true

-- one trail continues another, and none of the steps that it adds passes the test
pub record NoneSince (mine : WordStep → Bool) (known trail : List WordStep) : Type 0 where
  pub later : List WordStep
  pub all : trail ≡ known ++ later
  pub none : filter mine later ≡ []

-- the one trail begins with the other
abbrev pub BeginsWith : List WordStep → List WordStep → Type 0
BeginsWith all known = (later : List WordStep) × (all ≡ known ++ later)

-- the numbers of the keeper and of the pass of each seat
pub record AllNumbers : Type 0 where
  pub keeper : KeeperNumbers
  pub passes : List PassNumbers

-- the numbers of the pass of a seat
abbrev pub pass_in : AllNumbers → ℕ → PassNumbers
pass_in n seat = slice_index_or n.passes seat first_pass_numbers

-- the numbers with those of one pass changed
abbrev pub with_pass : AllNumbers → ℕ → PassNumbers → AllNumbers
with_pass n seat p = record n { passes = slice_set n.passes seat p }

-- the numbers after a step: a load finds what the steps before it have left there
abbrev pub numbers_after : AllNumbers → WordStep → AllNumbers
numbers_after n (TookGeneration seat) = with_pass n seat (generation_taken n.keeper.generation (pass_in n seat))
numbers_after n (SawGeneration seat) = with_pass n seat (generation_seen n.keeper.generation (pass_in n seat))
numbers_after n (StoredSince seat) = with_pass n seat (since_stored (pass_in n seat))
numbers_after n (StoredLeft seat) = with_pass n seat (left_stored (pass_in n seat))
numbers_after n AddedOne = record n { keeper = generation_raised n.keeper }
numbers_after n (TookWord seat) = record n { keeper = word_taken seat (pass_in n seat).word n.keeper }

-- the numbers after these steps
abbrev pub numbers_after_all : AllNumbers → List WordStep → AllNumbers
numbers_after_all n [] = n
numbers_after_all n (step ∷ steps) = numbers_after_all (numbers_after n step) steps

-- the numbers that a trail leads to, from those of a new table with this number of seats
abbrev pub numbers_by : ℕ → List WordStep → AllNumbers
numbers_by seats trail = numbers_after_all record { keeper = first_keeper_numbers seats; passes = replicate seats first_pass_numbers } trail

-- the word of a seat where a trail ends: the number that its last check-in has stored, or "left"
abbrev pub seat_word : ℕ → List WordStep → ℕ → ℕ
seat_word seats trail k = (pass_in (numbers_by seats trail) k).word

-- no step of the trail has lowered a seat's word
abbrev pub IsRising : ℕ → List WordStep → Type 0
IsRising seats trail = (k : ℕ) (first more later : List WordStep) → trail ≡ first ++ (more ++ later)
    → seat_word seats first k ≤ seat_word seats (first ++ more) k
