-- The steps on the words that events are, and what a keeper that has taken its part of them knows.
use Rattle.std.proofs.Common.{◌≡◌, ℕ, zero, suc, List, [], ◌∷◌, ◌++◌, filter, length, map, replicate, get_or, set, ◌⊎◌, inl, inr, refl, sym, ap, subst, ◌∙◌}
use Rattle.std.specs.Prelude.{All}
use Rattle.std.proofs.lemmas.Grind.{flat_map-append}
use Rattle.std.proofs.lemmas.List.{length-map, length-replicate, map-set}
use Rattle.std.proofs.lemmas.List.Elements.{filter-append, All-nil, All-cons, All-head, All-tail}
use Rattle.std.proofs.Math.ListN.{get_or-map}
use Rattle.std.proofs.Math.Seq.{map-set_same}
use Rattle.nc_gens.specs.declared.view.PassNumbers.{PassNumbers}
use Rattle.nc_gens.specs.declared.view.WordStep.{WordStep}
use Rattle.nc_gens.specs.declared.view.WordStep.TheVariants.{AddedOne, TookWord}
use Rattle.nc_gens.specs.Rule.{first_pass_numbers, generation_taken, generation_seen, since_stored, left_stored, generation_raised, word_taken}
use Rattle.nc_gens.specs.Trail.{AllNumbers, BeginsWith, is_by_keeper, numbers_after_all, numbers_by, pass_in}
use Rattle.nc_gens.specs.Seen.{KeeperState, KeeperSteps, IsLedTo, first_keeper}
use Rattle.nc_gens.proofs.Offered.{as_many_by, after_both, IsNoTake, same_raises, keeper_untouched}
use Rattle.nc_region.specs.schedules.World.{Seat, World, first_seat, first_world, seat_at}
use Rattle.nc_region.specs.schedules.Events.{Event, Steps, Enters, Exits, Takes, Sees, Stores, Leaves, Puts, Serializes, Marks, Bumps, Retires, Frees}
use Rattle.nc_region.specs.schedules.Events.{Looks, after, world_after}
use Rattle.nc_histories.specs.Interleaving.{writers, IsKeepers, IsNoLook}
use Rattle.nc_histories.specs.Steps.{word_step, word_steps}

-- ---- the numbers of a world

-- the numbers of the pass of a seat
abbrev pass_of : Seat → PassNumbers
pass_of seat = seat.pass

-- the world has these numbers
record Matches (w : World) (n : AllNumbers) : Type 0 where
  pub keeper : w.keeper ≡ n.keeper
  pub passes : map pass_of w.seats ≡ n.passes

-- the numbers of one pass
one_pass : (w : World) (n : AllNumbers) (k : ℕ) → Matches w n → (seat_at w k).pass ≡ pass_in n k
one_pass w n k m = sym (get_or-map pass_of w.seats k first_seat) ∙ ap (λ (l : List PassNumbers). get_or l k first_pass_numbers) m.passes

-- the passes, if one seat changes and its pass doesn't
same_passes : (w : World) (n : AllNumbers) (k : ℕ) (seat : Seat) → Matches w n → seat.pass ≡ (seat_at w k).pass
    → map pass_of (set w.seats k seat) ≡ n.passes
same_passes w n k seat m same = map-set_same pass_of w.seats k seat first_seat same ∙ m.passes

-- the passes, if the pass of one seat changes
new_passes : (w : World) (n : AllNumbers) (k : ℕ) (seat : Seat) (p : PassNumbers) → Matches w n → seat.pass ≡ p
    → map pass_of (set w.seats k seat) ≡ set n.passes k p
new_passes w n k seat p m same = map-set pass_of w.seats k seat ∙ (λ i. set (m.passes i) k (same i))

-- an event changes the numbers of a world as its step does
matches_after : (w : World) (n : AllNumbers) (event : Event) → Matches w n → Matches (after w event) (numbers_after_all n (word_step event))
matches_after w n (Steps k next) m = record { keeper = m.keeper; passes = same_passes w n k _ m refl }
matches_after w n (Enters k at) m = record { keeper = m.keeper; passes = same_passes w n k _ m refl }
matches_after w n (Exits k) m = record { keeper = m.keeper; passes = same_passes w n k _ m refl }
matches_after w n (Takes k) m = record {
  keeper = m.keeper;
  passes = new_passes w n k _ _ m (λ i. generation_taken (m.keeper i).generation (one_pass w n k m i));
}
matches_after w n (Sees k) m = record {
  keeper = m.keeper;
  passes = new_passes w n k _ _ m (λ i. generation_seen (m.keeper i).generation (one_pass w n k m i));
}
matches_after w n (Stores k) m = record {
  keeper = m.keeper;
  passes = new_passes w n k _ _ m (ap since_stored (one_pass w n k m));
}
matches_after w n (Leaves k) m = record {
  keeper = m.keeper;
  passes = new_passes w n k _ _ m (ap left_stored (one_pass w n k m));
}
matches_after w n (Puts at byte) m = record { keeper = m.keeper; passes = m.passes }
matches_after w n Serializes m = record { keeper = m.keeper; passes = m.passes }
matches_after w n (Marks at marks) m = record { keeper = m.keeper; passes = m.passes }
matches_after w n Bumps m = record { keeper = ap generation_raised m.keeper; passes = m.passes }
matches_after w n (Retires base len) m = record { keeper = ap generation_raised m.keeper; passes = m.passes }
matches_after w n (Frees span) m = record { keeper = m.keeper; passes = m.passes }
matches_after w n (Looks k) m = record {
  keeper = λ i. word_taken k (one_pass w n k m i).word (m.keeper i);
  passes = same_passes w n k _ m refl;
}

-- so do events, one after the other
matches_all : (w : World) (n : AllNumbers) (events : List Event) → Matches w n
    → Matches (world_after w events) (numbers_after_all n (word_steps events))
matches_all w n [] m = m
matches_all w n (event ∷ events) m =
    subst (Matches (world_after (after w event) events)) (sym (after_both n (word_step event) (word_steps events)))
    (matches_all (after w event) (numbers_after_all n (word_step event)) events (matches_after w n event m))

-- the first world has the numbers of a new table
matches_first : (limit seats : ℕ) → Matches (first_world limit seats) (numbers_by seats [])
matches_first limit seats = record { keeper = refl; passes = copies seats }
  where
    copies : (k : ℕ) → map pass_of (replicate k first_seat) ≡ replicate k first_pass_numbers
    copies zero = refl
    copies (suc k) = ap (λ (l : List PassNumbers). first_pass_numbers ∷ l) (copies k)

-- the pass of each seat has the numbers that the steps of the events lead to
pub pass_after : (limit seats : ℕ) (events : List Event) (k : ℕ)
    → (seat_at (world_after (first_world limit seats) events) k).pass ≡ pass_in (numbers_by seats (word_steps events)) k
pass_after limit seats events k =
    one_pass (world_after (first_world limit seats) events) (numbers_by seats (word_steps events)) k
    (matches_all (first_world limit seats) (numbers_by seats []) events (matches_first limit seats))

-- a world keeps its seats
pub as_many_seats : (limit seats : ℕ) (events : List Event) → length (world_after (first_world limit seats) events).seats ≡ seats
as_many_seats limit seats events =
    sym (length-map (world_after (first_world limit seats) events).seats pass_of)
    ∙ (ap length (matches_all (first_world limit seats) (numbers_by seats []) events (matches_first limit seats)).passes
    ∙ as_many_by seats (word_steps events))

-- ---- what a keeper knows

-- a list with which nothing is added is empty
nothing_added : (xs ys : List WordStep) → xs ≡ xs ++ ys → ys ≡ []
nothing_added [] ys e = sym e
nothing_added (x ∷ xs) ys e = nothing_added xs ys (let rest : xs ≡ xs ++ ys = cc in rest)

-- The numbers of a keeper are those of the world's, if they are the ones that its trail leads to, the steps of the events begin with
-- this trail, and it has all steps of a keeper among them.
pub found : (limit seats : ℕ) (events : List Event) (k : KeeperState) → IsLedTo k → length k.numbers.bounds ≡ seats
    → filter is_by_keeper k.trail ≡ filter is_by_keeper (word_steps events) → BeginsWith (word_steps events) k.trail
    → (world_after (first_world limit seats) events).keeper ≡ k.numbers
found limit seats events k led many own begins =
    let parted = filter-append is_by_keeper k.trail begins.0 in
    let none : filter is_by_keeper begins.0 ≡ [] =
    nothing_added (filter is_by_keeper k.trail) (filter is_by_keeper begins.0) (own ∙ (ap (filter is_by_keeper) begins.1 ∙ parted)) in
    (matches_all (first_world limit seats) (numbers_by seats []) events (matches_first limit seats)).keeper
    ∙ (ap (λ (h : List WordStep). (numbers_by seats h).keeper) begins.1
    ∙ (ap (λ (n : AllNumbers). n.keeper) (after_both (numbers_by seats []) k.trail begins.0)
    ∙ (keeper_untouched (numbers_by seats k.trail) begins.0 none
    ∙ (ap (λ (z : ℕ). (numbers_by z k.trail).keeper) (sym many) ∙ sym led))))

-- a trail begins with one of no step
pub begins_with_none : (all known : List WordStep) → known ≡ [] → BeginsWith all known
begins_with_none all known none = (all, ap (λ (l : List WordStep). l ++ all) (sym none))

-- an event is a look or no look
look_or_not : (event : Event) → IsNoLook event ⊎ (¬ IsNoLook event)
look_or_not (Looks k) = inr (λ x. x)
look_or_not _ = inl tt

-- some events have no look among them, or they do
pub looks_or_not : (events : List Event) → All IsNoLook events ⊎ (¬ All IsNoLook events)
looks_or_not [] = inl (All-nil IsNoLook)
looks_or_not (event ∷ events) =
    elim (look_or_not event) [
      | inr is ↦ inr (λ all. is (All-head IsNoLook event events all))
      | inl is_none ↦
          elim (looks_or_not events) [
            | inl none ↦ inl (All-cons IsNoLook event events is_none none)
            | inr some ↦ inr (λ all. some (All-tail IsNoLook event events all))
          ]
    ]

-- where the writer looks at no word, its keeper loads none
pub takes_none : (events : List Event) → All IsNoLook (writers events) → All IsNoTake (filter is_by_keeper (word_steps events))
takes_none [] none = All-nil IsNoTake
takes_none (Steps k next ∷ events) none = takes_none events none
takes_none (Enters k at ∷ events) none = takes_none events none
takes_none (Exits k ∷ events) none = takes_none events none
takes_none (Takes k ∷ events) none = takes_none events none
takes_none (Sees k ∷ events) none = takes_none events none
takes_none (Stores k ∷ events) none = takes_none events none
takes_none (Leaves k ∷ events) none = takes_none events none
takes_none (Puts at byte ∷ events) none = takes_none events (All-tail IsNoLook (Puts at byte) (writers events) none)
takes_none (Serializes ∷ events) none = takes_none events (All-tail IsNoLook Serializes (writers events) none)
takes_none (Marks at marks ∷ events) none = takes_none events (All-tail IsNoLook (Marks at marks) (writers events) none)
takes_none (Frees span ∷ events) none = takes_none events (All-tail IsNoLook (Frees span) (writers events) none)
takes_none (Bumps ∷ events) none =
    All-cons IsNoTake AddedOne (filter is_by_keeper (word_steps events)) tt
    (takes_none events (All-tail IsNoLook Bumps (writers events) none))
takes_none (Retires base len ∷ events) none =
    All-cons IsNoTake AddedOne (filter is_by_keeper (word_steps events)) tt
    (takes_none events (All-tail IsNoLook (Retires base len) (writers events) none))
takes_none (Looks k ∷ events) none = absurd (All-head IsNoLook (Looks k) (writers events) none)

-- ---- the keeper's steps among those of events

-- the steps of two lists of events
pub steps_append : (xs ys : List Event) → word_steps (xs ++ ys) ≡ word_steps xs ++ word_steps ys
steps_append xs ys = flat_map-append word_step xs ys

-- the keeper's steps are those of the writer's events
pub keeper_writes : (events : List Event) → filter is_by_keeper (word_steps events) ≡ filter is_by_keeper (word_steps (writers events))
keeper_writes [] = refl
keeper_writes (Steps k next ∷ events) = keeper_writes events
keeper_writes (Enters k at ∷ events) = keeper_writes events
keeper_writes (Exits k ∷ events) = keeper_writes events
keeper_writes (Takes k ∷ events) = keeper_writes events
keeper_writes (Sees k ∷ events) = keeper_writes events
keeper_writes (Stores k ∷ events) = keeper_writes events
keeper_writes (Leaves k ∷ events) = keeper_writes events
keeper_writes (Puts at byte ∷ events) = keeper_writes events
keeper_writes (Serializes ∷ events) = keeper_writes events
keeper_writes (Marks at marks ∷ events) = keeper_writes events
keeper_writes (Bumps ∷ events) = ap (λ (l : List WordStep). AddedOne ∷ l) (keeper_writes events)
keeper_writes (Retires base len ∷ events) = ap (λ (l : List WordStep). AddedOne ∷ l) (keeper_writes events)
keeper_writes (Frees span ∷ events) = keeper_writes events
keeper_writes (Looks k ∷ events) = ap (λ (l : List WordStep). TookWord k ∷ l) (keeper_writes events)

-- ---- what a keeper knows of the steps of events

-- The keeper has the numbers that its trail leads to, bounds for this number of seats, and all steps of a keeper among these events.
-- The world's keeper has the same numbers.
pub record KnowsSteps (limit seats : ℕ) (events : List Event) (k : KeeperState) : Type 0 where
  pub led_to : IsLedTo k
  pub bounds : length k.numbers.bounds ≡ seats
  pub own : filter is_by_keeper k.trail ≡ filter is_by_keeper (word_steps events)
  pub same : (world_after (first_world limit seats) events).keeper ≡ k.numbers

-- all steps of a keeper's events are the keeper's
pub all_keepers : (events : List Event) → All IsKeepers events → filter is_by_keeper (word_steps events) ≡ word_steps events
all_keepers [] own = refl
all_keepers (Steps k next ∷ events) own = absurd (All-head IsKeepers (Steps k next) events own)
all_keepers (Enters k at ∷ events) own = absurd (All-head IsKeepers (Enters k at) events own)
all_keepers (Exits k ∷ events) own = absurd (All-head IsKeepers (Exits k) events own)
all_keepers (Takes k ∷ events) own = absurd (All-head IsKeepers (Takes k) events own)
all_keepers (Sees k ∷ events) own = absurd (All-head IsKeepers (Sees k) events own)
all_keepers (Stores k ∷ events) own = absurd (All-head IsKeepers (Stores k) events own)
all_keepers (Leaves k ∷ events) own = absurd (All-head IsKeepers (Leaves k) events own)
all_keepers (Puts at byte ∷ events) own = absurd (All-head IsKeepers (Puts at byte) events own)
all_keepers (Serializes ∷ events) own = absurd (All-head IsKeepers Serializes events own)
all_keepers (Marks at marks ∷ events) own = absurd (All-head IsKeepers (Marks at marks) events own)
all_keepers (Retires base len ∷ events) own = absurd (All-head IsKeepers (Retires base len) events own)
all_keepers (Frees span ∷ events) own = absurd (All-head IsKeepers (Frees span) events own)
all_keepers (Bumps ∷ events) own = ap (λ (l : List WordStep). AddedOne ∷ l) (all_keepers events (All-tail IsKeepers Bumps events own))
all_keepers (Looks k ∷ events) own = ap (λ (l : List WordStep). TookWord k ∷ l) (all_keepers events (All-tail IsKeepers (Looks k) events own))

-- the keeper's own steps, once it has taken those among further events
own_then : (limit seats : ℕ) (before events : List Event) (old new : KeeperState) → KnowsSteps limit seats before old
    → KeeperSteps old new (filter is_by_keeper (word_steps (writers events)))
    → filter is_by_keeper new.trail ≡ filter is_by_keeper (word_steps (before ++ events))
own_then limit seats before events old new knows steps =
    ap (filter is_by_keeper) steps.adds.all
    ∙ (filter-append is_by_keeper old.trail steps.adds.later
    ∙ ((λ i. knows.own i ++ (steps.adds.own_are ∙ sym (keeper_writes events)) i)
    ∙ sym (ap (filter is_by_keeper) (steps_append before events) ∙ filter-append is_by_keeper (word_steps before) (word_steps events))))

-- the same numbers, if no word was looked at
same_unseen : (limit seats : ℕ) (before events : List Event) (old new : KeeperState) → KnowsSteps limit seats before old
    → KeeperSteps old new (filter is_by_keeper (word_steps (writers events))) → All IsNoLook (writers events)
    → (world_after (first_world limit seats) (before ++ events)).keeper ≡ new.numbers
same_unseen limit seats before events old new knows steps none =
    let start = numbers_by seats [] in
    let all = matches_all (first_world limit seats) (numbers_by seats []) (before ++ events) (matches_first limit seats) in
    let first = matches_all (first_world limit seats) (numbers_by seats []) before (matches_first limit seats) in
    let was : (numbers_by seats (word_steps before)).keeper ≡ (numbers_by seats old.trail).keeper =
    sym first.keeper ∙ (knows.same ∙ (knows.led_to ∙ ap (λ (z : ℕ). (numbers_by z old.trail).keeper) knows.bounds)) in
    let own : filter is_by_keeper (word_steps events) ≡ filter is_by_keeper steps.adds.later =
    keeper_writes events ∙ sym steps.adds.own_are in
    all.keeper
    ∙ (ap (λ (h : List WordStep). (numbers_by seats h).keeper) (steps_append before events)
    ∙ (ap (λ (n : AllNumbers). n.keeper) (after_both (numbers_by seats []) (word_steps before) (word_steps events))
    ∙ (same_raises (numbers_by seats (word_steps before)) (numbers_by seats old.trail) (word_steps events) steps.adds.later was own
    (subst (All IsNoTake) own (takes_none events none))
    ∙ (ap (λ (n : AllNumbers). n.keeper) (sym (after_both (numbers_by seats []) old.trail steps.adds.later))
    ∙ ((λ i. (numbers_by (sym (steps.seats ∙ knows.bounds) i) (sym steps.adds.all i)).keeper) ∙ sym (steps.led_to knows.led_to))))))

-- what a keeper knows after further events, if it has taken its steps among these and they are in order where it looked
pub knows_more : (limit seats : ℕ) (before events : List Event) (old new : KeeperState) → KnowsSteps limit seats before old
    → KeeperSteps old new (filter is_by_keeper (word_steps (writers events)))
    → (¬ All IsNoLook (writers events) → BeginsWith (word_steps (before ++ events)) new.trail)
    → KnowsSteps limit seats (before ++ events) new
knows_more limit seats before events old new knows steps order =
    let led = steps.led_to knows.led_to in
    let own = own_then limit seats before events old new knows steps in
    record {
      led_to = led;
      bounds = steps.seats ∙ knows.bounds;
      own = own;
      same = elim (looks_or_not (writers events)) [
        | inl none ↦ same_unseen limit seats before events old new knows steps none
        | inr some ↦ found limit seats (before ++ events) new led (steps.seats ∙ knows.bounds) own (order some)
      ];
    }

-- a keeper that took no step knows what it did
pub knows_first : (limit seats : ℕ) (k : KeeperState) → KnowsSteps limit seats [] (first_keeper k.table seats)
knows_first limit seats k =
    let bounds : length (first_keeper k.table seats).numbers.bounds ≡ seats = length-replicate {A = ℕ} seats 0 in
    record { led_to = ap (λ (z : ℕ). (numbers_by z []).keeper) (sym bounds); bounds = bounds; own = refl; same = refl }
