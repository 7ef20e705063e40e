-- Each turn of a history is a call that a host can make, with its events one by one.
use Rattle.std.proofs.Common.{◌≡◌, ℕ, ◌+◌, ◌*◌, Bool, true, false, cond, None, List, [], ◌∷◌, ◌++◌, refl, ◌∙◌, sym, ap, subst}
use Rattle.std.specs.Prelude.{All}
use Rattle.std.proofs.lemmas.List.{append-nil, append_assoc}
use Rattle.std.proofs.lemmas.List.Elements.{All-append, filter-append}
use Rattle.nc_gens.specs.declared.view.WordStep.{WordStep}
use Rattle.nc_gens.specs.Trail.{BeginsWith}
use Rattle.nc_region.specs.schedules.World.{World, first_world}
use Rattle.nc_region.specs.schedules.Events.{Event, ThreadMay, world_after}
use Rattle.nc_region.proofs.Offered.{after_append}
use Rattle.nc_histories.specs.Interleaving.{is_writers, writers, IsNoLook, ThreadsMay}
use Rattle.nc_histories.specs.Steps.{word_step, word_steps}
use Rattle.nc_histories.specs.Histories.{Turn, IsTurn}
use Rattle.nc_host_handles.specs.RegionHandle.{RegionHandleState}
use Rattle.nc_host_handles.specs.Pending.{IsHandleCall, Changes}
use Rattle.nc_host_law.specs.Hosts.{Host, host_after, IsHostStep, Runs, Makes, Calls, IsReached, Then}
use Rattle.nc_host_law.specs.Turns.{GoesOn, Here, Further}
use Rattle.nc_histories.proofs.Offered.{steps_append}
use Rattle.nc_host_law.proofs.Looked.{all_back}
use Rattle.nc_host_law.proofs.Going.{calls, runs}

-- the writer's events begin with one of the writer's
writers_first : (event : Event) (events : List Event) → is_writers event ≡ true → writers (event ∷ events) ≡ event ∷ writers events
writers_first event events is = ap (λ (b : Bool). cond b (event ∷ writers events) (writers events)) is

-- an event of a thread is none of the writer's
writers_but : (event : Event) (events : List Event) → is_writers event ≡ false → writers (event ∷ events) ≡ writers events
writers_but event events is = ap (λ (b : Bool). cond b (event ∷ writers events) (writers events)) is

-- where a host has gone can be reached
pub reached_by : (bundles seats : ℕ) (from to : Host) → GoesOn bundles seats from to → IsReached bundles seats to
reached_by bundles seats from to (Here reached) = reached
reached_by bundles seats from to (Further gone step reached) = reached

-- the host in the middle of a turn, once these events have happened
abbrev in_turn : Host → Turn → (made later : List Event) → Host
in_turn host turn made later = record {
  handle = record host.handle { region = turn.region };
  world = world_after host.world made;
  steps = host.steps ++ word_steps made;
  pending = writers later;
  announced = writers turn.events;
}

-- one more event has happened
once_more : (host : Host) (turn : Turn) (made later : List Event) (event : Event)
    → record (host_after (in_turn host turn made (event ∷ later)) event) { pending = writers later } ≡ in_turn host turn (made ++ event ∷ []) later
once_more host turn made later event = λ i. record {
  handle = record host.handle { region = turn.region };
  world = sym (after_append host.world made (event ∷ [])) i;
  steps = (append_assoc host.steps (word_steps made) (word_step event)
      ∙ ap (λ (l : List WordStep). host.steps ++ l)
      (ap (λ (l : List WordStep). word_steps made ++ l) (sym (append-nil (word_step event))) ∙ sym (steps_append made (event ∷ [])))) i;
  pending = writers later;
  announced = writers turn.events;
}

-- where one event more has a look among the writer's, it is the look
look_here : (made later : List Event) (event : Event) → is_writers event ≡ true → ¬ All IsNoLook (writers (event ∷ later))
    → All IsNoLook (writers later) → ¬ All IsNoLook (writers (made ++ event ∷ []))
look_here made later event is some none all =
    some (subst (All IsNoLook) (sym (writers_first event later is))
    (All-append IsNoLook (event ∷ []) (writers later)
    (subst (All IsNoLook) (writers_first event [] is)
    (all_back IsNoLook (writers made) (writers (event ∷ [])) (subst (All IsNoLook) (filter-append is_writers made (event ∷ [])) all)))
    none))

-- a host makes the next event of a turn
goes_once : (bundles seats : ℕ) (host : Host) (turn : Turn) (before made later : List Event) (event : Event)
    → GoesOn bundles seats host (in_turn host turn made (event ∷ later))
    → (is_writers event ≡ false → ThreadMay (world_after host.world made) event)
    → host.steps ≡ word_steps before → turn.events ≡ (made ++ event ∷ []) ++ later
    → ((first rest : List Event) → turn.events ≡ first ++ rest → ¬ All IsNoLook (writers first) → All IsNoLook (writers rest)
    → BeginsWith (word_steps (before ++ first)) turn.region.keeper.trail)
    → (b : Bool) → is_writers event ≡ b → GoesOn bundles seats host (in_turn host turn (made ++ event ∷ []) later)
goes_once bundles seats host turn before made later event gone may steps parts order false is =
    let old : Host = in_turn host turn made (event ∷ later) in
    let reached = reached_by bundles seats host old gone in
    subst (GoesOn bundles seats host) (once_more host turn made later event)
    (subst (λ (z : List Event). GoesOn bundles seats host (record (host_after old event) { pending = z })) (writers_but event later is)
    (Further gone (Runs event is (may is) refl) (runs bundles seats old event reached is (may is))))
goes_once bundles seats host turn before made later event gone may steps parts order true is =
    let old : Host = in_turn host turn made (event ∷ later) in
    let new : Host = record (host_after old event) { pending = writers later } in
    let step : IsHostStep seats old new = Makes event (writers_first event later is) refl in
    let same = once_more host turn made later event in
    let here : word_steps (before ++ (made ++ event ∷ [])) ≡ new.steps =
    steps_append before (made ++ event ∷ [])
    ∙ (ap (λ (l : List WordStep). l ++ word_steps (made ++ event ∷ [])) (sym steps) ∙ sym (ap (λ (h : Host). h.steps) same)) in
    subst (GoesOn bundles seats host) same
    (Further gone step (Then (reached_by bundles seats host old gone) step
    (λ some none. subst (λ (l : List WordStep). BeginsWith l turn.region.keeper.trail) here
    (order (made ++ event ∷ []) later parts (look_here made later event is some none) none))))

-- a host makes the next events of a turn, one by one, and the writer's among the others are then pending
goes_on : (bundles seats : ℕ) (host : Host) (turn : Turn) (before made events later : List Event)
    → GoesOn bundles seats host (in_turn host turn made (events ++ later)) → ThreadsMay (world_after host.world made) (events ++ later)
    → host.steps ≡ word_steps before → turn.events ≡ made ++ (events ++ later)
    → ((first rest : List Event) → turn.events ≡ first ++ rest → ¬ All IsNoLook (writers first) → All IsNoLook (writers rest)
    → BeginsWith (word_steps (before ++ first)) turn.region.keeper.trail)
    → GoesOn bundles seats host (in_turn host turn (made ++ events) later)
goes_on bundles seats host turn before made [] later gone threads steps parts order =
    subst (λ (z : List Event). GoesOn bundles seats host (in_turn host turn z later)) (sym (append-nil made)) gone
goes_on bundles seats host turn before made (event ∷ events) later gone threads steps parts order =
    let whole : turn.events ≡ (made ++ event ∷ []) ++ (events ++ later) = parts ∙ sym (append_assoc made (event ∷ []) (events ++ later)) in
    subst (λ (z : List Event). GoesOn bundles seats host (in_turn host turn z later)) (append_assoc made (event ∷ []) events)
    (goes_on bundles seats host turn before (made ++ event ∷ []) events later
    (goes_once bundles seats host turn before made (events ++ later) event gone threads.0 steps whole order (is_writers event) refl)
    (subst (λ (w : World). ThreadsMay w (events ++ later)) (sym (after_append host.world made (event ∷ []))) threads.1)
    steps whole order)

-- where nothing is pending and no deletion is under way, a host can take the next turn of a history: it makes its call, and then
-- the first events of the turn
pub turns : (bundles seats : ℕ) (host : Host) (before events later : List Event) (turn : Turn) → IsReached bundles seats host
    → host.pending ≡ [] → host.handle.begun ≡ None → host.world ≡ world_after (first_world (65536 + 32 * bundles) seats) before
    → host.steps ≡ word_steps before
    → IsTurn (65536 + 32 * bundles) seats before host.handle.region turn → turn.events ≡ events ++ later
    → GoesOn bundles seats host (record {
      handle = record host.handle { region = turn.region };
      world = world_after host.world events;
      steps = host.steps ++ word_steps events;
      pending = writers later;
      announced = writers turn.events;
    })
turns bundles seats host before events later turn reached none idle there steps is parts =
    let new : RegionHandleState = record host.handle { region = turn.region } in
    let own : List Event = writers turn.events in
    let call : IsHandleCall seats host.handle new (writers turn.events) = Changes idle idle is.call in
    let called : Host = record host { handle = new; pending = own; announced = own } in
    let gone : GoesOn bundles seats host called =
    Further (Here reached) (Calls none call refl) (calls bundles seats host new own reached none call) in
    let start : called ≡ in_turn host turn [] turn.events =
    λ i. record called { steps = sym (append-nil host.steps) i } in
    goes_on bundles seats host turn before [] events later
    (subst (λ (z : List Event). GoesOn bundles seats host (in_turn host turn [] z)) parts (subst (GoesOn bundles seats host) start gone))
    (subst (λ (z : List Event). ThreadsMay host.world z) parts (subst (λ (w : World). ThreadsMay w turn.events) (sym there) is.threads))
    steps parts is.order
