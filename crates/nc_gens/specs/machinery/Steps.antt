-- The kinds of step on the words. Each definition says which word (`st.word`) the step is on, who takes it, and what is known about the
-- token before (m) and after (m') and about the number n that it found or stored. The step is the last one of the trail that the token
-- then recalls.
use Rattle.std.specs.Prelude.{◌≡◌, ◌≢◌, ℕ, ◌+◌, ◌-◌, ◌<◌, ◌≤◌, true, [], ◌∷◌, slice_index}
use Rattle.atomic_table.specs.Table.{Me, Step}
use Rattle.nc_gens.specs.declared.view.View.{View}
use Rattle.nc_gens.specs.declared.view.WordStep.{WordStep}
use Rattle.nc_gens.specs.declared.view.WordStep.TheVariants.{TookGeneration, SawGeneration, StoredSince, StoredLeft, AddedOne, TookWord}
use Rattle.nc_gens.specs.Rule.{left_word, last_generation, generation_taken, generation_seen, since_stored, left_stored}
use Rattle.nc_gens.specs.Rule.{generation_raised, word_taken}
use Rattle.nc_gens.specs.Trail.{Adds, NoneSince, is_by_pass, is_by_keeper, numbers_by, pass_in, IsRising}

-- what a token knows: its view (and its slots, of which this table has none)
abbrev pub Known : Type 0
Known = Me (Unit {0}) View

-- the pass of this view has taken this step, and has the numbers that the trail leads to
pub record HasStepped (v v' : View) (step : WordStep) : Type 0 where
  pub adds : Adds (is_by_pass v.seat) v.pass_trail v'.pass_trail (step ∷ [])
  pub numbers : v'.pass ≡ pass_in (numbers_by v.seats v'.pass_trail) v.seat

-- the same for the keeper of this view; no step of its trail has lowered a seat's word
pub record KeeperHasStepped (v v' : View) (step : WordStep) : Type 0 where
  pub adds : Adds is_by_keeper v.keeper_trail v'.keeper_trail (step ∷ [])
  pub numbers : v'.keeper ≡ (numbers_by v.seats v'.keeper_trail).keeper
  pub rising : IsRising v.seats v'.keeper_trail

-- 1: a pass loads the generation
pub record TakesGeneration (st : Step (Unit {0})) (m : Known) (n : ℕ) (m' : Known) : Type 0 where
  pub after : m' ≡ (record m.0 { pass = generation_taken n m.0.pass; pass_trail = m'.0.pass_trail }, m.1)
  pub stepped : HasStepped m.0 m'.0 (TookGeneration m.0.seat)
  pub by_pass : m.0.is_pass ≡ true
  pub word : st.word ≡ 0
  pub rises : m.0.pass.seen ≤ n
  pub in_range : n ≤ last_generation

-- 1 again: a pass loads the generation, and only `seen` (and the count of loads) changes
pub record SeesGeneration (st : Step (Unit {0})) (m : Known) (n : ℕ) (m' : Known) : Type 0 where
  pub after : m' ≡ (record m.0 { pass = generation_seen n m.0.pass; pass_trail = m'.0.pass_trail }, m.1)
  pub stepped : HasStepped m.0 m'.0 (SawGeneration m.0.seat)
  pub by_pass : m.0.is_pass ≡ true
  pub word : st.word ≡ 0
  pub rises : m.0.pass.seen ≤ n
  pub in_range : n ≤ last_generation
  pub met : m.0.is_keeper ≡ true → n ≡ m.0.keeper.generation

-- 2: a pass stores its own word
pub record StoresSince (st : Step (Unit {0})) (m : Known) (n : ℕ) (m' : Known) : Type 0 where
  pub after : m' ≡ (record m.0 { pass = since_stored m.0.pass; pass_trail = m'.0.pass_trail }, m.1)
  pub stepped : HasStepped m.0 m'.0 (StoredSince m.0.seat)
  pub by_pass : m.0.is_pass ≡ true
  pub word : st.word ≡ m.0.seat + 1
  pub stored : n ≡ m.0.pass.since

-- 3: a pass stores "left"
pub record StoresLeft (st : Step (Unit {0})) (m : Known) (n : ℕ) (m' : Known) : Type 0 where
  pub after : m' ≡ (record m.0 { pass = left_stored m.0.pass; pass_trail = m'.0.pass_trail }, m.1)
  pub stepped : HasStepped m.0 m'.0 (StoredLeft m.0.seat)
  pub by_pass : m.0.is_pass ≡ true
  pub word : st.word ≡ m.0.seat + 1
  pub stored : n ≡ left_word

-- 4: the keeper adds one to the generation
pub record AddsOne (st : Step (Unit {0})) (m : Known) (n : ℕ) (m' : Known) : Type 0 where
  pub after : m' ≡ (record m.0 { keeper = generation_raised m.0.keeper; keeper_trail = m'.0.keeper_trail }, m.1)
  pub stepped : KeeperHasStepped m.0 m'.0 AddedOne
  pub by_keeper : m.0.is_keeper ≡ true
  pub word : st.word ≡ 0
  pub added : st.first ≡ 1
  pub found : n ≡ m.0.keeper.generation

-- 5: the keeper loads the word of a seat
pub record TakesWord (st : Step (Unit {0})) (m : Known) (n : ℕ) (m' : Known) : Type 0 where
  pub after : m' ≡ (record m.0 { keeper = word_taken (st.word - 1) n m.0.keeper; keeper_trail = m'.0.keeper_trail }, m.1)
  pub stepped : KeeperHasStepped m.0 m'.0 (TookWord (st.word - 1))
  pub by_keeper : m.0.is_keeper ≡ true
  pub word : 0 < st.word
  pub rises : slice_index m.0.keeper.bounds (st.word - 1) ≤ n
  pub in_range : n ≢ left_word → n ≤ m.0.keeper.generation
  pub met : m.0.is_pass ≡ true → m.0.seat + 1 ≡ st.word → n ≡ m.0.pass.word
  pub together : m.0.is_pass ≡ true → NoneSince (is_by_pass m.0.seat) m.0.pass_trail m'.0.keeper_trail
