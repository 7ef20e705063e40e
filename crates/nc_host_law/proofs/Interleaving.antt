-- Events of threads and of the writer, one after the other.
use Rattle.std.proofs.Common.{◌≡◌, ℕ, zero, suc, ◌+◌, Bool, true, false, cond, List, [], ◌∷◌, ◌++◌, map, length, refl, ◌∙◌, sym, ap, subst}
use Rattle.std.specs.Prelude.{All}
use Rattle.std.specs.List.{range_with_len}
use Rattle.std.proofs.lemmas.List.{append-nil, take_at}
use Rattle.std.proofs.lemmas.List.Elements.{All-nil, All-cons, All-head, All-tail, All-append, All-take, All-weaker, filter-append}
use Rattle.nc_region.specs.schedules.World.{World}
use Rattle.nc_region.specs.schedules.Events.{Event, Steps, Enters, Exits, Takes, Sees, Stores, Leaves, Puts, Serializes, Marks, Bumps, Retires, Frees}
use Rattle.nc_region.specs.schedules.Events.{Looks, after, world_after}
use Rattle.nc_acts.specs.declared.acts.Act.TheVariants.{Put, MarkSpan, UnmarkSpan, Bump, Look}
use Rattle.nc_acts.specs.declared.acts.Entry.{Entry}
use Rattle.nc_acts.specs.declared.acts.Entry.TheVariants.{Did, Serialized}
use Rattle.nc_gens.specs.Seen.{least_number}
use Rattle.nc_region.specs.Region.{Region}
use Rattle.nc_acts.specs.Log.{only_acts, log_of_create, log_of_delete}
use Rattle.nc_region.specs.Patch.{log_of_patch}
use Rattle.nc_region.specs.Deletion.{freed, unmarkings}
use Rattle.nc_region.specs.Quiet.{retired_spans}
use Rattle.nc_histories.specs.Interleaving.{is_writers, writers, IsKeepers, ThreadsMay}
use Rattle.nc_histories.specs.Calls.{Details, no_details, events_of_entry, events_of_log, create_events, patch_events, delete_events}
use Rattle.nc_histories.proofs.Offered.{refusal_silent}
use Rattle.nc_histories.specs.Histories.{AreAttempts, NoneYet, OneMore, IsCall, Creates, Patches, Deletes, Reclaims, UsesKeeper, Refuses, Keeps}

-- the event is the writer's
abbrev pub IsWriters : Event → Type 0
IsWriters event = is_writers event ≡ true

-- the first of some elements
pub all_front : {X : Type 0} (P : X → Type 0) (xs ys : List X) → All P (xs ++ ys) → All P xs
all_front P xs ys all = subst (All P) (take_at xs ys (length xs) refl) (All-take P (length xs) (xs ++ ys) all)

-- where all events are the writer's, the writer's events among them are all of them
pub writers_all : (events : List Event) → All IsWriters events → writers events ≡ events
writers_all [] all = refl
writers_all (event ∷ events) all =
    ap (λ (b : Bool). cond b (event ∷ writers events) (writers events)) (All-head IsWriters event events all)
    ∙ ap (λ (z : List Event). event ∷ z) (writers_all events (All-tail IsWriters event events all))

-- an event of a thread adds none to the writer's
pub writers_thread : (since : List Event) (event : Event) → is_writers event ≡ false → writers (since ++ event ∷ []) ≡ writers since
writers_thread since event is =
    filter-append is_writers since (event ∷ [])
    ∙ (ap (λ (b : Bool). writers since ++ cond b (event ∷ []) []) is ∙ append-nil (writers since))

-- events of the writer alone are all added to the writer's
pub writers_own : (since pending : List Event) → All IsWriters pending → writers (since ++ pending) ≡ writers since ++ pending
writers_own since pending all = filter-append is_writers since pending ∙ ap (λ (z : List Event). writers since ++ z) (writers_all pending all)

-- threads do what they may in events after others in which they do
pub threads_append : (w : World) (xs ys : List Event) → ThreadsMay w xs → ThreadsMay (world_after w xs) ys → ThreadsMay w (xs ++ ys)
threads_append w [] ys a b = b
threads_append w (x ∷ xs) ys a b = (a.0, threads_append (after w x) xs ys a.1 b)

-- the writer's own events ask nothing of threads
pub threads_none : (w : World) (events : List Event) → All IsWriters events → ThreadsMay w events
threads_none w [] all = tt
threads_none w (event ∷ events) all = (
  (λ no. absurd (let bad : true ≡ false = sym (All-head IsWriters event events all) ∙ no in cc)),
  threads_none (after w event) events (All-tail IsWriters event events all),
)

-- an event of a thread changes only seats
pub thread_seats : (w : World) (event : Event) → is_writers event ≡ false → after w event ≡ record w { seats = (after w event).seats }
thread_seats w (Steps k next) is = refl
thread_seats w (Enters k at) is = refl
thread_seats w (Exits k) is = refl
thread_seats w (Takes k) is = refl
thread_seats w (Sees k) is = refl
thread_seats w (Stores k) is = refl
thread_seats w (Leaves k) is = refl
thread_seats w (Puts at byte) is = absurd (let bad : true ≡ false = is in cc)
thread_seats w Serializes is = absurd (let bad : true ≡ false = is in cc)
thread_seats w (Marks at marks) is = absurd (let bad : true ≡ false = is in cc)
thread_seats w Bumps is = absurd (let bad : true ≡ false = is in cc)
thread_seats w (Retires base len) is = absurd (let bad : true ≡ false = is in cc)
thread_seats w (Frees span) is = absurd (let bad : true ≡ false = is in cc)
thread_seats w (Looks k) is = absurd (let bad : true ≡ false = is in cc)

-- ---- the events of a call

-- all looks are the writer's
looks_writers : (from n : ℕ) → All IsWriters (map Looks (range_with_len from n))
looks_writers from zero = All-nil IsWriters
looks_writers from (suc n) = All-cons IsWriters (Looks from) (map Looks (range_with_len (from + 1) n)) refl (looks_writers (from + 1) n)

-- a writer's event is all the writer's
pub one_writers : (event : Event) → IsWriters event → All IsWriters (event ∷ [])
one_writers event is = All-cons IsWriters event [] is (All-nil IsWriters)

-- the events of an entry are all the writer's
entry_writers : (d : Details) (entry : Entry) → All IsWriters (events_of_entry d entry)
entry_writers d (Did (Put at byte)) = one_writers (Puts at byte) refl
entry_writers d (Did (MarkSpan at len)) = one_writers (Marks at d.marks) refl
entry_writers d (Did (UnmarkSpan at len)) = one_writers (Frees _) refl
entry_writers d (Did Bump) = one_writers (Retires d.base d.len) refl
entry_writers d (Did Look) = looks_writers 0 d.seats
entry_writers d Serialized = one_writers Serializes refl

-- the events of a log are all the writer's
pub log_writers : (d : Details) (log : List Entry) → All IsWriters (events_of_log d log)
log_writers d [] = All-nil IsWriters
log_writers d (entry ∷ log) =
    All-append IsWriters (events_of_entry d entry) (events_of_log d log) (entry_writers d entry) (log_writers d log)

-- the keeper's events are the writer's
keepers_writers : (event : Event) → IsKeepers event → IsWriters event
keepers_writers (Puts at byte) k = refl
keepers_writers Serializes k = refl
keepers_writers (Marks at marks) k = refl
keepers_writers Bumps k = refl
keepers_writers (Retires base len) k = refl
keepers_writers (Frees span) k = refl
keepers_writers (Looks n) k = refl
keepers_writers (Steps n next) k = absurd k
keepers_writers (Enters n at) k = absurd k
keepers_writers (Exits n) k = absurd k
keepers_writers (Takes n) k = absurd k
keepers_writers (Sees n) k = absurd k
keepers_writers (Stores n) k = absurd k
keepers_writers (Leaves n) k = absurd k

-- attempts at events that are all the writer's
attempts_writers : (events made : List Event) → AreAttempts events made → All IsWriters events → All IsWriters made
attempts_writers events [] NoneYet all = All-nil IsWriters
attempts_writers events _ (OneMore {earlier} first part rest same) all =
    All-append IsWriters earlier part (attempts_writers events earlier first all)
    (all_front IsWriters part rest (subst (All IsWriters) (sym same) all))

-- events that are all the writer's, after attempts at some of them
tried_writers : (events made own : List Event) → AreAttempts events made → All IsWriters events → All IsWriters own
    → All IsWriters (made ++ own)
tried_writers events made own tried all more = All-append IsWriters made own (attempts_writers events made tried all) more

-- the events of a call are all the writer's
pub call_writers : (seats : ℕ) (old new : Region) (own : List Event) → IsCall seats old new own → All IsWriters own
call_writers seats old new own (Creates v valid lim is made tried same) =
    let all : All IsWriters (create_events v) = log_writers (record no_details { marks = v.marks }) (log_of_create v.base v.code) in
    subst (All IsWriters) (sym same) (tried_writers (create_events v) made (create_events v) tried all all)
call_writers seats old new own (Patches at bytes news lawful b is made tried same) =
    let events : List Event = patch_events old.marked.bytes at news in
    let all : All IsWriters (patch_events old.marked.bytes at news) = log_writers no_details (log_of_patch old.marked.bytes at news) in
    subst (All IsWriters) (sym same) (tried_writers events made events tried all all)
call_writers seats old new own (Deletes base stamp is stops made stamped tried same) =
    let all : All IsWriters (delete_events old.marked.marks base is.chunk.length) =
    log_writers (record no_details { base = base; len = is.chunk.length }) (log_of_delete old.marked.marks base is.chunk.length) in
    subst (All IsWriters) (sym same)
    (tried_writers stops made (delete_events old.marked.marks base is.chunk.length) tried
    (all_front IsWriters stops (Retires base is.chunk.length ∷ []) (subst (All IsWriters) (sym stamped) all)) all)
call_writers seats old new own (Reclaims count is same) =
    subst (All IsWriters) (sym same)
    (log_writers (record no_details { seats = seats; spans = retired_spans old.chunks })
    (only_acts (Look ∷ unmarkings (freed (least_number new.keeper.numbers) old.chunks))))
call_writers seats old new own (UsesKeeper marked chunks all steps range) = All-weaker IsKeepers IsWriters keepers_writers own all
call_writers seats old new own (Refuses is) = subst (All IsWriters) (sym (refusal_silent old new own is)) (All-nil IsWriters)
call_writers seats old new own (Keeps is same) = subst (All IsWriters) (sym same) (All-nil IsWriters)
