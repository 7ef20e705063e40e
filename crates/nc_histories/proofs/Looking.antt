-- The keeper's events with threads between them, and by which stamps a look at all seats lets spans be freed.
use Rattle.std.proofs.Common.{◌≡◌, ◌≢◌, ℕ, zero, suc, ◌+◌, ◌<◌, ◌≤◌, ◌⊎◌, Bool, true, false, cond, List, [], ◌∷◌, ◌++◌}
use Rattle.std.proofs.Common.{length, get_or, map, inl, inr, arith, refl, ◌∙◌, sym, ap, subst}
use Rattle.std.specs.Prelude.{All, slice_index}
use Rattle.std.specs.List.{range_with_len}
use Rattle.std.proofs.lemmas.List.Elements.{All-nil, All-cons, All-head, All-tail}
use Rattle.nc_gens.specs.declared.view.KeeperNumbers.{KeeperNumbers}
use Rattle.nc_gens.specs.Rule.{left_word, last_generation}
use Rattle.nc_gens.specs.Seen.{least_number}
use Rattle.nc_gens.proofs.Offered.{least_below}
use Rattle.nc_region.specs.schedules.World.{World, Seat, seat_at, HasPassed}
use Rattle.nc_region.specs.schedules.Events.{Event, Steps, Enters, Exits, Takes, Sees, Stores, Leaves, Puts, Serializes, Marks, Bumps, Retires, Frees}
use Rattle.nc_region.specs.schedules.Events.{Looks}
use Rattle.nc_region.specs.schedules.Events.{IsAllowed, after, world_after, AreAllowed}
use Rattle.nc_region.proofs.Offered.{Keeps}
use Rattle.nc_histories.specs.Interleaving.{is_writers, writers, IsKeepers, ThreadsMay}
use Rattle.nc_histories.specs.Calls.{KnowsNoMore}
use Rattle.nc_histories.proofs.StaysWhole.{IsWholeIn, StaysWhole}

-- ---- seats that have passed a stamp

-- a stamp of at most the least number of a keeper that knows no more than the world's has passed every seat
pub has_passed : (w : World) (known : KeeperNumbers) (stamp : ℕ) → Keeps w → w.keeper.generation ≤ last_generation
    → KnowsNoMore known w.keeper → stamp ≤ least_number known → HasPassed w stamp
has_passed w known stamp keeps range knows le k lt = go (seat_at w k).found_left refl
  where
    go : (found : Bool) → (seat_at w k).found_left ≡ found → (stamp ≤ slice_index w.keeper.bounds k) ⊎ ((seat_at w k).found_left ≡ true)
    go true is = inr is
    go false is =
        let s = keeps.seats k lt in
        let bound = s.bound_is is in
        let inside : k < length known.bounds = omega (arith, lt, keeps.bounds, knows.seats) in
        let most = knows.below k inside in
        let stays : get_or known.bounds k 0 ≢ left_word = λ e. omega (arith, e, most, bound, s.since, range) in
        let below = least_below known.generation known.bounds k inside stays in
        inl (omega (arith, le, most, below))

-- ---- the keeper's events

-- the world with this keeper and these seats
abbrev pub placed : World → KeeperNumbers → List Seat → World
placed w keeper seats = record w { keeper = keeper; seats = seats }

-- the looks at all seats from one on are the keeper's
pub looks_are : (a m : ℕ) → All IsKeepers (map Looks (range_with_len a m))
looks_are a zero = All-nil IsKeepers
looks_are a (suc m) = All-cons IsKeepers (Looks a) (map Looks (range_with_len (a + 1) m)) tt (looks_are (a + 1) m)

-- Events that are allowed, and after which only the keeper's numbers and the seats are others. If what views have at marked places stood
-- there whole before them, it did after each.
pub record KeeperOnly (w : World) (keeper : KeeperNumbers) (seats : List Seat) (events : List Event) : Type 0 where
  pub allowed : AreAllowed (placed w keeper seats) events
  pub whole : IsWholeIn w → StaysWhole (placed w keeper seats) events
  pub keeper_after : KeeperNumbers
  pub seats_after : List Seat
  pub after_is : world_after (placed w keeper seats) events ≡ placed w keeper_after seats_after

-- an event that changes only the keeper's numbers and the seats may come before others like it
keeper_more : (w : World) (keeper later : KeeperNumbers) (seats others : List Seat) (event : Event) (events : List Event)
    → IsAllowed (placed w keeper seats) event → after (placed w keeper seats) event ≡ placed w later others
    → KeeperOnly w later others events → KeeperOnly w keeper seats (event ∷ events)
keeper_more w keeper later seats others event events allowed same rest =
    record {
      allowed = (allowed, subst (λ (x : World). AreAllowed x events) (sym same) rest.allowed);
      whole = λ whole. (whole, subst (λ (x : World). StaysWhole x events) (sym same) (rest.whole whole));
      keeper_after = rest.keeper_after;
      seats_after = rest.seats_after;
      after_is = ap (λ (x : World). world_after x events) same ∙ rest.after_is;
    }

-- the keeper's events with threads between them
pub keeper_interleaved : (w : World) (events : List Event) (keeper : KeeperNumbers) (seats : List Seat) → All IsKeepers (writers events)
    → ThreadsMay (placed w keeper seats) events → KeeperOnly w keeper seats events
keeper_interleaved w [] keeper seats own threads =
    record { allowed = tt; whole = λ whole. whole; keeper_after = keeper; seats_after = seats; after_is = refl }
keeper_interleaved w (Steps k next ∷ events) keeper seats own threads =
    keeper_more w keeper keeper seats _ (Steps k next) events (threads.0 refl) refl (keeper_interleaved w events keeper _ own threads.1)
keeper_interleaved w (Enters k at ∷ events) keeper seats own threads =
    keeper_more w keeper keeper seats _ (Enters k at) events (threads.0 refl) refl (keeper_interleaved w events keeper _ own threads.1)
keeper_interleaved w (Exits k ∷ events) keeper seats own threads =
    keeper_more w keeper keeper seats _ (Exits k) events (threads.0 refl) refl (keeper_interleaved w events keeper _ own threads.1)
keeper_interleaved w (Takes k ∷ events) keeper seats own threads =
    keeper_more w keeper keeper seats _ (Takes k) events (threads.0 refl) refl (keeper_interleaved w events keeper _ own threads.1)
keeper_interleaved w (Sees k ∷ events) keeper seats own threads =
    keeper_more w keeper keeper seats _ (Sees k) events (threads.0 refl) refl (keeper_interleaved w events keeper _ own threads.1)
keeper_interleaved w (Stores k ∷ events) keeper seats own threads =
    keeper_more w keeper keeper seats _ (Stores k) events (threads.0 refl) refl (keeper_interleaved w events keeper _ own threads.1)
keeper_interleaved w (Leaves k ∷ events) keeper seats own threads =
    keeper_more w keeper keeper seats _ (Leaves k) events (threads.0 refl) refl (keeper_interleaved w events keeper _ own threads.1)
keeper_interleaved w (Puts at byte ∷ events) keeper seats own threads =
    absurd (All-head IsKeepers (Puts at byte) (writers events) own)
keeper_interleaved w (Serializes ∷ events) keeper seats own threads = absurd (All-head IsKeepers Serializes (writers events) own)
keeper_interleaved w (Marks at marks ∷ events) keeper seats own threads =
    absurd (All-head IsKeepers (Marks at marks) (writers events) own)
keeper_interleaved w (Retires base len ∷ events) keeper seats own threads =
    absurd (All-head IsKeepers (Retires base len) (writers events) own)
keeper_interleaved w (Frees span ∷ events) keeper seats own threads =
    absurd (All-head IsKeepers (Frees span) (writers events) own)
keeper_interleaved w (Bumps ∷ events) keeper seats own threads =
    keeper_more w keeper _ seats _ Bumps events tt refl
    (keeper_interleaved w events _ _ (All-tail IsKeepers Bumps (writers events) own) threads.1)
keeper_interleaved w (Looks k ∷ events) keeper seats own threads =
    keeper_more w keeper _ seats _ (Looks k) events tt refl
    (keeper_interleaved w events _ _ (All-tail IsKeepers (Looks k) (writers events) own) threads.1)

-- ---- events parted where the first of the writer's end

-- threads that do what they may in two lists of events, one after the other, do so in each
pub threads_parted : (w : World) (xs ys : List Event) → ThreadsMay w (xs ++ ys) → ThreadsMay w xs × ThreadsMay (world_after w xs) ys
threads_parted w [] ys t = (tt, t)
threads_parted w (x ∷ xs) ys t = let r = threads_parted (after w x) xs ys t.1 in ((t.0, r.0), r.1)

-- the events parted in two: those of the first list and those of the second, with threads between them
pub record Parted (events xs ys : List Event) : Type 0 where
  pub first : List Event
  pub second : List Event
  pub is : events ≡ first ++ second
  pub first_is : writers first ≡ xs
  pub second_is : writers second ≡ ys

-- events parted where the writer's are
pub part : (events xs ys : List Event) → writers events ≡ xs ++ ys → Parted events xs ys
part events [] ys is = record { first = []; second = events; is = refl; first_is = refl; second_is = is }
part [] (x ∷ xs) ys is = absurd (let no : [] ≡ x ∷ (xs ++ ys) = is in cc)
part (event ∷ events) (x ∷ xs) ys is = go (is_writers event) refl is (part events xs ys) (part events (x ∷ xs) ys)
  where
    go : (b : Bool) → is_writers event ≡ b → cond b (event ∷ writers events) (writers events) ≡ x ∷ (xs ++ ys)
        → (writers events ≡ xs ++ ys → Parted events xs ys) → (writers events ≡ x ∷ (xs ++ ys) → Parted events (x ∷ xs) ys)
        → Parted (event ∷ events) (x ∷ xs) ys
    go true own e rest same =
        let head : event ≡ x = cc in
        let tail : writers events ≡ xs ++ ys = cc in
        let r = rest tail in
        record {
          first = event ∷ r.first;
          second = r.second;
          is = ap (λ (z : List Event). event ∷ z) r.is;
          first_is = ap (λ (b : Bool). cond b (event ∷ writers r.first) (writers r.first)) own
              ∙ (ap (λ (z : List Event). event ∷ z) r.first_is ∙ ap (λ (z : Event). z ∷ xs) head);
          second_is = r.second_is;
        }
    go false own e rest same =
        let r = same e in
        record {
          first = event ∷ r.first;
          second = r.second;
          is = ap (λ (z : List Event). event ∷ z) r.is;
          first_is = ap (λ (b : Bool). cond b (event ∷ writers r.first) (writers r.first)) own ∙ r.first_is;
          second_is = r.second_is;
        }
