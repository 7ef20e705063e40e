-- In a history, a reclaim frees each chunk whose stamp every seat has passed.
use Rattle.std.proofs.Common.{◌≡◌, ℕ, ◌<◌, ◌≤◌, ◌⊎◌, refl, length-append, inl, inr, ⊎_elim, List, [], ◌∷◌, ◌++◌, filter, length, map, sym, ap, subst, arith, append_assoc, ◌∙◌}
use Rattle.std.specs.Prelude.{All, Contains}
use Rattle.std.specs.List.{range_with_len}
use Rattle.std.proofs.lemmas.List.{append-nil}
use Rattle.std.proofs.lemmas.List.Elements.{filter-append, All-nil, All-contains, Contains-append_cases}
use Rattle.nc_gens.specs.declared.view.WordStep.{WordStep}
use Rattle.nc_gens.specs.declared.view.WordStep.TheVariants.{TookWord}
use Rattle.nc_gens.specs.declared.view.PassNumbers.{PassNumbers}
use Rattle.nc_gens.specs.Trail.{BeginsWith, is_by_keeper, seat_word}
use Rattle.nc_gens.specs.Seen.{least_number}
use Rattle.nc_gens.proofs.Offered.{unfiltered, loads_each, IsNoTake}
use Rattle.nc_region.specs.schedules.World.{first_world, first_seat}
use Rattle.nc_region.specs.schedules.Events.{Event, world_after}
use Rattle.nc_region.specs.Region.{Region}
use Rattle.nc_region.specs.Deletion.{AreFreedUpTo}
use Rattle.nc_region.proofs.Offered.{freed_from}
use Rattle.nc_histories.specs.Interleaving.{writers, IsNoLook}
use Rattle.nc_histories.specs.Steps.{word_steps}
use Rattle.nc_histories.specs.Histories.{Turn, IsTurn, AreTurns, IsHistory, happened, region_at_end}
use Rattle.nc_histories.specs.Progress.{AllHavePassed, IsReclaimTurn}
use Rattle.nc_histories.proofs.WordSteps.{pass_after, as_many_seats, steps_append, takes_none, keeper_writes, looks_or_not}
use Rattle.nc_histories.proofs.CallSteps.{reclaim_steps}
use Rattle.nc_histories.proofs.AllTurns.{Stays, call_stays, history_stays}

-- turns that end with one more are the others, and that one after them
turns_parted : (limit seats : ℕ) (first : List Event) (r : Region) (turns : List Turn) (turn : Turn)
    → AreTurns limit seats first r (turns ++ turn ∷ [])
    → AreTurns limit seats first r turns × IsTurn limit seats (happened first turns) (region_at_end r turns) turn
turns_parted limit seats first r [] turn are = (tt, are.0)
turns_parted limit seats first r (t ∷ turns) turn are =
    let rest = turns_parted limit seats (first ++ t.events) t.region turns turn are.1 in ((are.0, rest.0), rest.1)

-- the others are a history by themselves
without_last : (limit seats : ℕ) (first : List Event) (r : Region) (turns : List Turn) (turn : Turn)
    → IsHistory limit seats first r (turns ++ turn ∷ []) → AreTurns limit seats first r turns → IsHistory limit seats first r turns
without_last limit seats first r turns turn h are = record {
  lawful = h.lawful;
  keepers = h.keepers;
  threads = h.threads;
  keeper = h.keeper;
  order = h.order;
  in_range = h.in_range;
  marked = h.marked;
  chunks = h.chunks;
  turns_are = are;
}

-- a seat's word is at least the stamp, if that holds of each seat of the world
word_passed : (limit seats stamp : ℕ) (events : List Event) (k : ℕ) → AllHavePassed (world_after (first_world limit seats) events) stamp
    → k < seats → stamp ≤ seat_word seats (word_steps events) k
word_passed limit seats stamp events k passed inside =
    let many = as_many_seats limit seats events in
    subst (λ (p : PassNumbers). stamp ≤ p.word) (pass_after limit seats events k) (passed k first_seat (omega (arith, many, inside)))

-- the keeper's steps in a reclaim's turn are the loads of its look
turn_loads : (seats : ℕ) (old : Region) (turn : Turn) → IsReclaimTurn seats old turn
    → filter is_by_keeper (word_steps turn.events) ≡ map TookWord (range_with_len 0 seats)
turn_loads seats old turn is =
    keeper_writes turn.events
    ∙ (ap (λ (l : List Event). filter is_by_keeper (word_steps l)) is.own
    ∙ reclaim_steps seats (least_number turn.region.keeper.numbers) old.chunks)

-- events without a look have no load
no_load : (events : List Event) (k : ℕ) → All IsNoLook (writers events) → ¬ Contains (filter is_by_keeper (word_steps events)) (TookWord k)
no_load events k none some = All-contains IsNoTake (filter is_by_keeper (word_steps events)) (TookWord k) (takes_none events none) some

-- each seat's word is loaded in a reclaim's turn, after the events without a look
loaded_later : (seats : ℕ) (old : Region) (turn : Turn) (made later : List Event) (k : ℕ) → IsReclaimTurn seats old turn
    → turn.events ≡ made ++ later → All IsNoLook (writers made) → k < seats
    → Contains (filter is_by_keeper (word_steps later)) (TookWord k)
loaded_later seats old turn made later k is parts none inside =
    let all : filter is_by_keeper (word_steps made) ++ filter is_by_keeper (word_steps later) ≡ map TookWord (range_with_len 0 seats) =
    sym (filter-append is_by_keeper (word_steps made) (word_steps later))
    ∙ (ap (filter is_by_keeper) (sym (steps_append made later) ∙ ap word_steps (sym parts)) ∙ turn_loads seats old turn is) in
    ⊎_elim
    (λ (front : Contains (filter is_by_keeper (word_steps made)) (TookWord k)). absurd (no_load made k none front))
    (λ (back : Contains (filter is_by_keeper (word_steps later)) (TookWord k)). back)
    (Contains-append_cases (filter is_by_keeper (word_steps made)) (filter is_by_keeper (word_steps later)) (TookWord k)
    (subst (λ (l : List WordStep). Contains l (TookWord k)) (sym all) (loads_each seats k inside)))

-- of two fronts of a list one begins with the other
two_fronts : (xs ys zs ws : List WordStep) → xs ++ ys ≡ zs ++ ws
    → ((m : List WordStep) × (xs ≡ zs ++ m)) ⊎ ((m : List WordStep) × (zs ≡ xs ++ m))
two_fronts xs ys [] ws e = inl (xs, refl)
two_fronts [] ys (z ∷ zs) ws e = inr (z ∷ zs, refl)
two_fronts (x ∷ xs) ys (z ∷ zs) ws e =
    let same : x ≡ z = cc in
    let rest : xs ++ ys ≡ zs ++ ws = cc in
    ⊎_elim (λ (t : (m : List WordStep) × (xs ≡ zs ++ m)). inl (t.0, λ i. same i ∷ t.1 i))
    (λ (t : (m : List WordStep) × (zs ≡ xs ++ m)). inr (t.0, λ i. sym same i ∷ t.1 i)) (two_fronts xs ys zs ws rest)

-- equal lists with the same front have the same rest
same_rest : (xs ys zs : List WordStep) → xs ++ ys ≡ xs ++ zs → ys ≡ zs
same_rest [] ys zs e = e
same_rest (x ∷ xs) ys zs e = same_rest xs ys zs (let rest : xs ++ ys ≡ xs ++ zs = cc in rest)

-- a keeper that has all its steps of a list, of which its trail is a front, has those after a part of it that is shorter
rest_loaded : (trail known later m : List WordStep) (k : ℕ) → filter is_by_keeper trail ≡ filter is_by_keeper (known ++ later)
    → trail ≡ known ++ m → Contains (filter is_by_keeper later) (TookWord k) → Contains m (TookWord k)
rest_loaded trail known later m k own parts some =
    unfiltered is_by_keeper m (TookWord k)
    (subst (λ (l : List WordStep). Contains l (TookWord k))
    (same_rest (filter is_by_keeper known) (filter is_by_keeper later) (filter is_by_keeper m)
    (sym (filter-append is_by_keeper known later)
    ∙ (sym own ∙ (ap (filter is_by_keeper) parts ∙ filter-append is_by_keeper known m)))) some)

-- its trail can't be a front of that part, if it takes a step after it
no_shorter : (trail known later m : List WordStep) (k : ℕ) → filter is_by_keeper trail ≡ filter is_by_keeper (known ++ later)
    → known ≡ trail ++ m → ¬ Contains (filter is_by_keeper later) (TookWord k)
no_shorter trail known later m k own parts some =
    let a = length-append (filter is_by_keeper known) (filter is_by_keeper later) in
    let b = length-append (filter is_by_keeper trail) (filter is_by_keeper m) in
    let whole = ap length (own ∙ filter-append is_by_keeper known later) in
    let front = ap length (ap (filter is_by_keeper) parts ∙ filter-append is_by_keeper trail m) in
    let some_long = some.1 in omega (arith, a, b, whole, front, some_long)

-- the turn of a reclaim, over a keeper that has taken its steps among the events up to its end
freed_in_turn : (limit seats : ℕ) (before made later : List Event) (old : Region) (turn : Turn) (stamp : ℕ)
    → IsReclaimTurn seats old turn → length old.keeper.numbers.bounds ≡ seats → stamp ≤ turn.region.keeper.numbers.generation
    → turn.events ≡ made ++ later → All IsNoLook (writers made)
    → AllHavePassed (world_after (first_world limit seats) (before ++ made)) stamp
    → filter is_by_keeper turn.region.keeper.trail ≡ filter is_by_keeper (word_steps (before ++ turn.events))
    → BeginsWith (word_steps (before ++ turn.events)) turn.region.keeper.trail
    → AreFreedUpTo stamp turn.region.chunks
freed_in_turn limit seats before made later old turn stamp is many drawn parts none passed own begins =
    let now = turn.region.keeper in
    let bounds : length now.numbers.bounds ≡ seats = is.reclaimed.looked.raised.0 ∙ many in
    let known : List WordStep = word_steps (before ++ made) in
    let all : word_steps (before ++ turn.events) ≡ known ++ word_steps later =
    ap word_steps (ap (λ (l : List Event). before ++ l) parts ∙ sym (append_assoc before made later))
    ∙ steps_append (before ++ made) later in
    let owns : filter is_by_keeper now.trail ≡ filter is_by_keeper (known ++ word_steps later) = own ∙ ap (filter is_by_keeper) all in
    let loads : (k : ℕ) → k < length now.numbers.bounds → Contains (filter is_by_keeper (word_steps later)) (TookWord k) =
    λ k inside. loaded_later seats old turn made later k is parts none (omega (arith, bounds, inside)) in
    ⊎_elim
    (λ (t : (m : List WordStep) × (now.trail ≡ known ++ m)).
    freed_from old turn.region is.count stamp known t.0 is.reclaimed drawn t.1
    (λ k inside. rest_loaded now.trail known (word_steps later) t.0 k owns t.1 (loads k inside))
    (λ k inside. inl (subst (λ (z : ℕ). stamp ≤ seat_word z known k) (sym bounds)
    (word_passed limit seats stamp (before ++ made) k passed (omega (arith, bounds, inside))))))
    (λ (t : (m : List WordStep) × (known ≡ now.trail ++ m)).
    freed_from old turn.region is.count stamp [] now.trail is.reclaimed drawn refl
    (λ k inside. absurd (no_shorter now.trail known (word_steps later) t.0 k owns t.1 (loads k inside)))
    (λ k inside. absurd (no_shorter now.trail known (word_steps later) t.0 k owns t.1 (loads k inside))))
    (two_fronts now.trail begins.0 known (word_steps later) (sym begins.1 ∙ all))

-- without a look in its events, a reclaim is over no seat
freed_without : (seats : ℕ) (old : Region) (turn : Turn) (stamp : ℕ) → IsReclaimTurn seats old turn
    → length old.keeper.numbers.bounds ≡ seats → stamp ≤ turn.region.keeper.numbers.generation → All IsNoLook (writers turn.events)
    → AreFreedUpTo stamp turn.region.chunks
freed_without seats old turn stamp is many drawn none =
    let bounds : length turn.region.keeper.numbers.bounds ≡ seats = is.reclaimed.looked.raised.0 ∙ many in
    let no_seat : (k : ℕ) → k < length turn.region.keeper.numbers.bounds → ⊥ =
    λ k inside. no_load turn.events k none
    (subst (λ (l : List WordStep). Contains l (TookWord k)) (sym (turn_loads seats old turn is))
    (loads_each seats k (omega (arith, bounds, inside)))) in
    freed_from old turn.region is.count stamp [] turn.region.keeper.trail is.reclaimed drawn refl
    (λ k inside. absurd (no_seat k inside)) (λ k inside. absurd (no_seat k inside))

-- a reclaim in a history frees the chunks whose stamps every seat has passed before its look
pub frees_passed : (limit seats : ℕ) (first made later : List Event) (r : Region) (turns : List Turn) (turn : Turn) (stamp : ℕ)
    → IsHistory limit seats first r (turns ++ turn ∷ []) → IsReclaimTurn seats (region_at_end r turns) turn
    → stamp ≤ turn.region.keeper.numbers.generation → turn.events ≡ made ++ later → All IsNoLook (writers made)
    → AllHavePassed (world_after (first_world limit seats) (happened first turns ++ made)) stamp
    → AreFreedUpTo stamp turn.region.chunks
frees_passed limit seats first made later r turns turn stamp h is drawn parts none passed =
    let cut = turns_parted limit seats first r turns turn h.turns_are in
    let before : List Event = happened first turns in
    let old : Region = region_at_end r turns in
    let s : Stays limit seats before old = history_stays limit seats first r turns (without_last limit seats first r turns turn h cut.0) in
    let order : ¬ All IsNoLook (writers turn.events) → BeginsWith (word_steps (before ++ turn.events)) turn.region.keeper.trail =
    λ some. cut.1.order turn.events [] (sym (append-nil turn.events)) some (All-nil IsNoLook) in
    let now : Stays limit seats (before ++ turn.events) turn.region =
    call_stays limit seats before old turn s cut.1.threads order cut.1.call in
    ⊎_elim
    (λ (no_look : All IsNoLook (writers turn.events)). freed_without seats old turn stamp is s.keeper.bounds drawn no_look)
    (λ (some : ¬ All IsNoLook (writers turn.events)).
    freed_in_turn limit seats before made later old turn stamp is s.keeper.bounds drawn parts none passed now.keeper.own (order some))
    (looks_or_not (writers turn.events))
