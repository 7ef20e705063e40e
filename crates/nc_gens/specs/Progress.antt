-- What the keeper finds in a seat's word, and when every seat has checked in since a stamp or has left.
use Rattle.std.specs.Prelude.{◌≡◌, ℕ, ◌<◌, ◌≤◌, List, ◌∷◌, ◌++◌, filter, map, Contains}
use Rattle.std.specs.List.{range_with_len}
use Rattle.nc_gens.specs.declared.view.WordStep.{WordStep}
use Rattle.nc_gens.specs.declared.view.WordStep.TheVariants.{TookGeneration, StoredSince, TookWord}
use Rattle.nc_gens.specs.Trail.{is_by_keeper, numbers_by, seat_word}

-- Where this trail ends, each seat has checked in since the stamp or has left: its word, which is the generation that its last
-- check-in took or the greater "left", is at least the stamp.
abbrev pub HavePassed : ℕ → ℕ → List WordStep → Type 0
HavePassed seats stamp known = (k : ℕ) → k < seats → stamp ≤ seat_word seats known k

-- The seat has checked in since the stamp: its pass has loaded the generation, which was at least the stamp then, and has later stored
-- what it took.
pub record HasCheckedInSince (seats stamp : ℕ) (trail : List WordStep) (k : ℕ) : Type 0 where
  pub first : List WordStep
  pub more : List WordStep
  pub later : List WordStep
  pub parts : trail ≡ first ++ TookGeneration k ∷ (more ++ StoredSince k ∷ later)
  pub drawn : stamp ≤ (numbers_by seats first).keeper.generation

-- The trail goes on from the known part, and the loads of a look at every seat are the last steps of the keeper in it.
pub record IsBeforeLook (seats : ℕ) (known trail : List WordStep) : Type 0 where
  pub rest : List WordStep
  pub parts : trail ≡ known ++ rest
  pub others : List WordStep
  pub loads : filter is_by_keeper rest ≡ others ++ map TookWord (range_with_len 0 seats)

-- After the known part of the trail, the keeper has loaded the seat's word. The last load found this number: the word where the steps
-- before it end, which is what the seat's last check-in or its leaving has stored.
pub record HasFound (seats : ℕ) (known trail : List WordStep) (k number : ℕ) : Type 0 where
  pub before : List WordStep
  pub after : List WordStep
  pub parts : trail ≡ (known ++ before) ++ TookWord k ∷ after
  pub found : number ≡ seat_word seats (known ++ before) k
  pub last : ¬ Contains after (TookWord k)
