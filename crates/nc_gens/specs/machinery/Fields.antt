-- The invariants of the fields of a pass and of the keeper.
use Rattle.std.specs.Prelude.{◌≡◌, ◌≢◌, ℕ, ◌+◌, ◌-◌, ◌<◌, ◌≤◌, true, false, [], length, slice_index}
use Rattle.nc_gens.specs.declared.table.Pass.TheInside as pass
use Rattle.nc_gens.specs.declared.table.Keeper.TheInside as keeper
use Rattle.nc_gens.specs.Rule.{left_word, last_generation}
use Rattle.nc_gens.specs.Trail.{numbers_by, pass_in}
use Rattle.nc_gens.specs.Seen.{AreSeats, PassState, KeeperState}

-- a pass as callers see it
abbrev pub pass_state : pass.Inside → PassState
pass_state a = record { table = a.token.table_id; seat = a.seat; numbers = a.token.me.0.pass; trail = a.token.me.0.pass_trail }

-- the fields of a pass agree with its token: its seat, and its `since`, at least its own word and at most the last generation that it saw
pub record IsPass (a : pass.Inside) : Type 0 where
  pub no_slots : a.token.me.1 ≡ []
  pub is_pass : a.token.me.0.is_pass ≡ true
  pub alone : a.token.me.0.is_keeper ≡ false
  pub seat_is : a.token.me.0.seat ≡ a.seat
  pub since_is : a.token.me.0.pass.since ≡ a.since
  pub inside : a.seat + 1 < a.token.table_id.words
  pub few : AreSeats (a.token.table_id.words - 1)
  pub published : a.token.me.0.pass.word ≤ a.since
  pub saw : a.since ≤ a.token.me.0.pass.seen
  pub in_range : a.token.me.0.pass.seen ≤ last_generation
  pub seats_are : a.token.table_id.words ≡ a.token.me.0.seats + 1
  pub led_to : a.token.me.0.pass ≡ pass_in (numbers_by a.token.me.0.seats a.token.me.0.pass_trail) a.seat

-- the keeper as callers see it
abbrev pub keeper_state : keeper.Inside → KeeperState
keeper_state a = record { table = a.token.table_id; numbers = a.token.me.0.keeper; trail = a.token.me.0.keeper_trail }

-- the fields of the keeper agree with its token: the generation, at most 2^62, and for each of 1 to 256 seats a bound, at most the
-- generation unless it is "left"
pub record IsKeeper (a : keeper.Inside) : Type 0 where
  pub no_slots : a.token.me.1 ≡ []
  pub is_keeper : a.token.me.0.is_keeper ≡ true
  pub alone : a.token.me.0.is_pass ≡ false
  pub generation_is : a.token.me.0.keeper.generation ≡ a.generation
  pub bounds_are : a.token.me.0.keeper.bounds ≡ a.bounds.items
  pub all_given : a.token.me.0.given ≡ length a.bounds.items
  pub wide : a.token.table_id.words ≡ length a.bounds.items + 1
  pub few : AreSeats (a.token.table_id.words - 1)
  pub counted : length a.token.me.0.keeper.looks ≡ length a.bounds.items
  pub in_range : a.generation ≤ last_generation
  pub each_bound : (i : ℕ) → i < length a.bounds.items → slice_index a.bounds.items i ≢ left_word
      → slice_index a.bounds.items i ≤ a.generation
  pub seats_are : a.token.me.0.seats ≡ length a.bounds.items
  pub led_to : a.token.me.0.keeper ≡ (numbers_by a.token.me.0.seats a.token.me.0.keeper_trail).keeper
