-- The rule of a table: its words keep `Ruled`, and each token recalls the trail of the words up to its own last step.
use Rattle.std.specs.Prelude.{◌≡◌, ℕ, ◌+◌, ◌≤◌, true, List, [], filter, length}
use mathlib.Core.Option.{some}
use lib.ListN.{get_elem?}
use Rattle.atomic_table.specs.Table.{State}
use Rattle.nc_gens.specs.declared.view.WordStep.{WordStep}
use Rattle.nc_gens.specs.declared.view.View.{View}
use Rattle.nc_gens.specs.Rule.{Ruled}
use Rattle.nc_gens.specs.Trail.{NoneSince, is_by_pass, is_by_keeper, numbers_by, pass_in, IsRising}

module _ (seats : ℕ) (trail : List WordStep) (v : View) where
  -- the view has the numbers that the trail leads to for its pass, which has taken no step since the part that it recalls
  pub record RecallsPass : Type 0 where
    pub seats_are : v.seats ≡ seats
    pub numbers : v.pass ≡ pass_in (numbers_by seats trail) v.seat
    pub known : NoneSince (is_by_pass v.seat) v.pass_trail trail

  -- the same for the keeper; a pass that it hasn't given out has taken no step
  pub record RecallsKeeper : Type 0 where
    pub seats_are : v.seats ≡ seats
    pub numbers : v.keeper ≡ (numbers_by seats trail).keeper
    pub known : NoneSince is_by_keeper v.keeper_trail trail
    pub not_given : (i : ℕ) → v.given ≤ i → filter (is_by_pass i) trail ≡ []

  pub record Recalls : Type 0 where
    pub pass : v.is_pass ≡ true → RecallsPass
    pub keeper : v.is_keeper ≡ true → RecallsKeeper

-- the rule: the words are ruled, and there is one trail, in which no seat's word falls, and of which each view recalls a part
pub record Recorded (s : State (Unit {0}) View) : Type 0 where
  pub ruled : Ruled s
  pub seats : ℕ
  pub wide : length s.words ≡ seats + 1
  pub trail : List WordStep
  pub rising : IsRising seats trail
  pub each_view : (j : ℕ) (v : View) → get_elem? s.views j ≡ some v → Recalls seats trail v
