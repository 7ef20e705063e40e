-- What every state that a host can reach keeps: the events so far are those of a history, and those pending complete its last call.
use Rattle.std.proofs.Common.{◌≡◌, ℕ, ◌+◌, ◌*◌, ◌<◌, inl, inr, false, Option, Some, None, List, [], ◌∷◌, ◌++◌, refl, ◌∙◌, sym, ap}
use Rattle.std.proofs.Common.{subst}
use Rattle.std.specs.Prelude.{All}
use Rattle.std.proofs.lemmas.List.{append-nil, append_assoc}
use Rattle.std.proofs.lemmas.List.Elements.{All-nil, All-append, All-head, All-tail, All-weaker}
use Rattle.nc_text.specs.MarkedText.{MarkedText, unused_text}
use Rattle.nc_gens.specs.Rule.{first_keeper_numbers}
use Rattle.nc_gens.specs.declared.view.WordStep.{WordStep}
use Rattle.nc_gens.specs.Trail.{BeginsWith}
use Rattle.nc_gens.specs.Seen.{KeeperState}
use Rattle.nc_list.specs.declared.chunk.Chunk.{Chunk}
use Rattle.nc_region.specs.schedules.World.{World, first_world}
use Rattle.nc_region.specs.schedules.Events.{Event, Puts, Serializes, Marks, Retires, ThreadMay, after, world_after}
use Rattle.nc_region.proofs.Offered.{after_append, region_of_new}
use Rattle.nc_region.specs.Region.{Region, IsRegion}
use Rattle.nc_region.specs.Deletion.{IsDeleted}
use Rattle.nc_histories.specs.Interleaving.{is_writers, writers, IsNoLook, ThreadsMay}
use Rattle.nc_histories.specs.Steps.{word_step, word_steps}
use Rattle.nc_histories.specs.Calls.{HasLedTo, no_details, delete_events}
use Rattle.nc_histories.specs.Histories.{AreAttempts, NoneYet, OneMore, IsCall, Deletes, Keeps}
use Rattle.nc_histories.proofs.Offered.{begins_unused}
use Rattle.nc_acts.specs.Log.{log_of_delete}
use Rattle.nc_host_handles.specs.RegionHandle.{RegionHandleState, IsLiveAt, IsFirst, HasEndedDeletion}
use Rattle.nc_host_handles.specs.Pending.{IsHandleCall, Changes, Begins, Ends}
use Rattle.nc_host_law.specs.Hosts.{Host, host_after, IsHostStep, Runs, Makes, Restarts, Calls, Asks, IsMadeByHost, IsInOrder, IsReached, First, Then}
use Rattle.nc_histories.proofs.Offered.{Stays, same_region, goes_on, call_stays}
use Rattle.nc_histories.proofs.Offered.{whole_serialized, KnowsSteps, knows_first, looks_or_not, steps_append}
use Rattle.nc_host_law.proofs.Making.{rest_by_host, by_host_look_not}
use Rattle.nc_host_law.proofs.Again.{call_again}
use Rattle.nc_host_law.proofs.Interleaving.{IsWriters, all_front, one_writers, writers_thread, writers_own, threads_append, threads_none}
use Rattle.nc_host_law.proofs.Looked.{all_back}
use Rattle.nc_host_law.proofs.Interleaving.{log_writers, call_writers}

-- The events so far are attempts at those of the last call, and the last attempt so far, whose rest is pending.
pub record Attempting (announced own pending : List Event) : Type 0 where
  pub made : List Event
  pub last : List Event
  pub tried : AreAttempts announced made
  pub own_is : own ≡ made ++ last
  pub last_is : last ++ pending ≡ announced

-- The events that there are before a call of a region ends are those of that call so far, whose rest is pending. If a host makes all of
-- its events, they are attempts. Or they are attempts at a deletion before its stamp.
pub data Phase (seats : ℕ) (from : Region) (own : List Event) (begun : Option Chunk) (region : Region) (announced pending : List Event)
    : Type 0 where
  Calling : (whole : Region) → begun ≡ None → region ≡ record whole { made = region.made } → IsCall seats from whole (own ++ pending)
      → (All IsMadeByHost announced → IsCall seats from whole announced × Attempting announced own pending)
      → Phase seats from own begun region announced pending
  Deleting : (c : Chunk) → begun ≡ Some c → region ≡ from → IsLiveAt from.chunks c.base c
      → from.keeper.numbers.generation < 4611686018427387904
      → announced ++ Retires c.base c.length ∷ [] ≡ delete_events from.marked.marks c.base c.length → Attempting announced own pending
      → Phase seats from own begun region announced pending

-- the events before the last call began, and since then
pub record Led (limit seats : ℕ) (host : Host) : Type 0 where
  pub before : List Event
  pub since : List Event
  pub from : Region
  pub stays : Stays limit seats before from
  pub world : host.world ≡ world_after (first_world limit seats) (before ++ since)
  pub threads : ThreadsMay (world_after (first_world limit seats) before) since
  pub plain : All IsWriters host.pending
  pub steps : host.steps ≡ word_steps (before ++ since)
  pub order : ¬ All IsNoLook (writers since) → All IsNoLook host.pending → BeginsWith host.steps host.handle.region.keeper.trail
  pub phase : Phase seats from (writers since) host.handle.begun host.handle.region host.announced host.pending

-- the world after one more event is that after all events
led_after : (limit seats : ℕ) (before since : List Event) (w : World) (event : Event)
    → w ≡ world_after (first_world limit seats) (before ++ since)
    → after w event ≡ world_after (first_world limit seats) (before ++ (since ++ event ∷ []))
led_after limit seats before since w event is =
    ap (λ (x : World). after x event) is
    ∙ (sym (after_append (first_world limit seats) (before ++ since) (event ∷ []))
    ∙ ap (world_after (first_world limit seats)) (append_assoc before since (event ∷ [])))

-- the world after two lists of events is that after the second in the world after the first
led_there : (limit seats : ℕ) (before since : List Event) (w : World) → w ≡ world_after (first_world limit seats) (before ++ since)
    → w ≡ world_after (world_after (first_world limit seats) before) since
led_there limit seats before since w is = is ∙ after_append (first_world limit seats) before since

-- the steps so far, with those of one more event
steps_after : (before since : List Event) (steps : List WordStep) (event : Event) → steps ≡ word_steps (before ++ since)
    → steps ++ word_step event ≡ word_steps (before ++ (since ++ event ∷ []))
steps_after before since steps event is =
    ap (λ (l : List WordStep). l ++ word_step event) is
    ∙ (ap (λ (l : List WordStep). word_steps (before ++ since) ++ l) (sym (append-nil (word_step event)))
    ∙ (sym (steps_append (before ++ since) (event ∷ [])) ∙ ap word_steps (append_assoc before since (event ∷ []))))

-- steps that begin with a trail do so with more of them
pub begins_longer : (all more known : List WordStep) → BeginsWith all known → BeginsWith (all ++ more) known
begins_longer all more known b =
    (b.0 ++ more, ap (λ (l : List WordStep). l ++ more) b.1 ∙ append_assoc known b.0 more)

-- one event of an attempt is made
attempting_made : (announced own pending rest : List Event) (event : Event) → pending ≡ event ∷ rest → Attempting announced own pending
    → Attempting announced (own ++ event ∷ []) rest
attempting_made announced own pending rest event is a =
    record {
      made = a.made;
      last = a.last ++ event ∷ [];
      tried = a.tried;
      own_is = ap (λ (z : List Event). z ++ event ∷ []) a.own_is ∙ append_assoc a.made a.last (event ∷ []);
      last_is = append_assoc a.last (event ∷ []) rest ∙ (ap (λ (z : List Event). a.last ++ z) (sym is) ∙ a.last_is);
    }

-- one more attempt begins
attempting_anew : (announced own pending : List Event) → Attempting announced own pending → Attempting announced own announced
attempting_anew announced own pending a =
    record {
      made = a.made ++ a.last;
      last = [];
      tried = OneMore a.tried a.last pending a.last_is;
      own_is = a.own_is ∙ sym (append-nil (a.made ++ a.last));
      last_is = refl;
    }

-- the first attempt begins
attempting_first : (announced : List Event) → Attempting announced [] announced
attempting_first announced = record { made = []; last = []; tried = NoneYet; own_is = refl; last_is = refl }

-- one event of a phase that was pending is made
phase_made : (seats : ℕ) (from : Region) (own : List Event) (begun : Option Chunk) (region : Region) (event : Event)
    (announced pending rest : List Event) → pending ≡ event ∷ rest → Phase seats from own begun region announced pending
    → Phase seats from (own ++ event ∷ []) begun region announced rest
phase_made seats from own begun region event announced pending rest is (Calling whole none pages call again) =
    Calling whole none pages (subst (IsCall seats from whole)
    (ap (λ (z : List Event). own ++ z) is ∙ sym (append_assoc own (event ∷ []) rest)) call)
    (λ by_host. ((again by_host).0, attempting_made announced own pending rest event is (again by_host).1))
phase_made seats from own begun region event announced pending rest is (Deleting c at same live room ends a) =
    Deleting c at same live room ends (attempting_made announced own pending rest event is a)

-- a host is led over a thread's event
led_runs : (limit seats : ℕ) (old : Host) (event : Event) → Led limit seats old → is_writers event ≡ false → ThreadMay old.world event
    → Led limit seats (host_after old event)
led_runs limit seats old event l is may =
    record {
      before = l.before;
      since = l.since ++ event ∷ [];
      from = l.from;
      stays = l.stays;
      world = led_after limit seats l.before l.since old.world event l.world;
      threads = threads_append (world_after (first_world limit seats) l.before) l.since (event ∷ []) l.threads
          ((λ no. subst (λ (w : World). ThreadMay w event) (led_there limit seats l.before l.since old.world l.world) may), tt);
      plain = l.plain;
      steps = steps_after l.before l.since old.steps event l.steps;
      order = λ some none. begins_longer old.steps (word_step event) old.handle.region.keeper.trail
          (l.order (subst (λ (own : List Event). ¬ All IsNoLook own) (writers_thread l.since event is) some) none);
      phase = subst (λ (own : List Event). Phase seats l.from own old.handle.begun old.handle.region old.announced old.pending)
          (sym (writers_thread l.since event is)) l.phase;
    }

-- the steps are in order once the next event is made, if they are where it is the last look
order_made : (old : Host) (event : Event) (since rest : List Event) → old.pending ≡ event ∷ rest
    → (¬ All IsNoLook since → All IsNoLook old.pending → BeginsWith old.steps old.handle.region.keeper.trail)
    → IsInOrder old (record (host_after old event) { pending = rest })
    → ¬ All IsNoLook (since ++ event ∷ []) → All IsNoLook rest → BeginsWith (old.steps ++ word_step event) old.handle.region.keeper.trail
order_made old event since rest is was last some none =
    elim (looks_or_not (event ∷ [])) [
      | inl no_look ↦ begins_longer old.steps (word_step event) old.handle.region.keeper.trail
          (was (λ all. some (All-append IsNoLook since (event ∷ []) all no_look))
          (subst (All IsNoLook) (sym is) (All-append IsNoLook (event ∷ []) rest no_look none)))
      | inr look ↦ last (λ all. look (all_front IsNoLook (event ∷ []) rest (subst (All IsNoLook) is all))) none
    ]

-- the next event that is pending
led_makes : (limit seats : ℕ) (old : Host) (event : Event) (rest : List Event) → Led limit seats old → old.pending ≡ event ∷ rest
    → IsInOrder old (record (host_after old event) { pending = rest }) → Led limit seats (record (host_after old event) { pending = rest })
led_makes limit seats old event rest l is order =
    let plain : All IsWriters (event ∷ rest) = subst (All IsWriters) is l.plain in
    let own : writers (l.since ++ event ∷ []) ≡ writers l.since ++ event ∷ [] =
    writers_own l.since (event ∷ []) (one_writers event (All-head IsWriters event rest plain)) in
    record {
      before = l.before;
      since = l.since ++ event ∷ [];
      from = l.from;
      stays = l.stays;
      world = led_after limit seats l.before l.since old.world event l.world;
      threads = threads_append (world_after (first_world limit seats) l.before) l.since (event ∷ []) l.threads
          (threads_none (world_after (world_after (first_world limit seats) l.before) l.since) (event ∷ [])
          (one_writers event (All-head IsWriters event rest plain)));
      plain = All-tail IsWriters event rest plain;
      steps = steps_after l.before l.since old.steps event l.steps;
      order = λ some none. order_made old event (writers l.since) rest is l.order order
          (subst (λ (z : List Event). ¬ All IsNoLook z) own some) none;
      phase = subst (λ (own : List Event). Phase seats l.from own old.handle.begun old.handle.region old.announced rest) (sym own)
          (phase_made seats l.from (writers l.since) old.handle.begun old.handle.region event old.announced old.pending rest is l.phase);
    }

-- a host makes what is left of an attempt at events that it makes
attempting_by_host : (announced own pending : List Event) → Attempting announced own pending
    → All IsMadeByHost announced → All IsMadeByHost pending
attempting_by_host announced own pending a by_host = all_back IsMadeByHost a.last pending (subst (All IsMadeByHost) (sym a.last_is) by_host)

-- where a host makes the events of the last call, it makes those pending
pub pending_by_host : (limit seats : ℕ) (host : Host) → Led limit seats host
    → All IsMadeByHost host.announced → All IsMadeByHost host.pending
pending_by_host limit seats host l by_host = go l.phase
  where
    go : Phase seats l.from (writers l.since) host.handle.begun host.handle.region host.announced host.pending
        → All IsMadeByHost host.pending
    go (Calling whole idle pages call again) = attempting_by_host host.announced (writers l.since) host.pending (again by_host).1 by_host
    go (Deleting c is at live room ends a) = attempting_by_host host.announced (writers l.since) host.pending a by_host

-- while a deletion is under way, the last call's events are those up to its stamp
pub deletion_announced : (limit seats : ℕ) (host : Host) (c : Chunk) → Led limit seats host → host.handle.begun ≡ Some c
    → host.announced ++ Retires c.base c.length ∷ [] ≡ delete_events host.handle.region.marked.marks c.base c.length
deletion_announced limit seats host c l begun = go l.phase
  where
    go : Phase seats l.from (writers l.since) host.handle.begun host.handle.region host.announced host.pending
        → host.announced ++ Retires c.base c.length ∷ [] ≡ delete_events host.handle.region.marked.marks c.base c.length
    go (Calling whole idle pages call again) = absurd (let bad : None ≡ Some c = sym idle ∙ begun in cc)
    go (Deleting d is at live room ends a) =
        let here : Some d ≡ Some c = sym is ∙ begun in
        let same : d ≡ c = cc in
        subst (λ (r : Region). host.announced ++ Retires c.base c.length ∷ [] ≡ delete_events r.marked.marks c.base c.length) (sym at)
        (subst (λ (e : Chunk). host.announced ++ Retires e.base e.length ∷ [] ≡ delete_events l.from.marked.marks e.base e.length)
        same ends)

-- pages that were made are no part of a world
pages_stay : (limit seats : ℕ) (before : List Event) (old new : Region) → Stays limit seats before old
    → new ≡ record old { made = new.made } → Stays limit seats before new
pages_stay limit seats before old new s pages =
    record {
      led = subst (λ (z : List Event). HasLedTo limit seats z new) (append-nil before)
          (goes_on limit seats before [] old new s.led pages refl tt).led;
      whole = s.whole;
      region = same_region old new (ap (λ (r : Region). r.marked) pages) (ap (λ (r : Region). r.chunks) pages) s.region;
      keeper = subst (KnowsSteps limit seats before) (sym (ap (λ (r : Region). r.keeper) pages)) s.keeper;
    }

-- where nothing is pending and no deletion is under way, the last call has ended
pub finished : (limit seats : ℕ) (host : Host) (l : Led limit seats host) → host.pending ≡ [] → host.handle.begun ≡ None
    → Stays limit seats (l.before ++ l.since) host.handle.region
finished limit seats host l none idle =
    go l.phase
  where
    go : Phase seats l.from (writers l.since) host.handle.begun host.handle.region host.announced host.pending
        → Stays limit seats (l.before ++ l.since) host.handle.region
    go (Calling called idle pages call again) =
        let own : writers l.since ++ host.pending ≡ writers l.since =
        ap (λ (z : List Event). writers l.since ++ z) none ∙ append-nil (writers l.since) in
        pages_stay limit seats (l.before ++ l.since) called host.handle.region
        (call_stays limit seats l.before l.from (record { events = l.since; region = called }) l.stays l.threads
        (λ some. subst (λ (h : List WordStep). BeginsWith h called.keeper.trail) l.steps
        (subst (λ (k : KeeperState). BeginsWith host.steps k.trail) (ap (λ (r : Region). r.keeper) pages)
        (l.order some (subst (All IsNoLook) (sym none) (All-nil IsNoLook)))))
        (subst (IsCall seats l.from called) own call)) pages
    go (Deleting c is at live room ends a) = absurd (let bad : None ≡ Some c = sym idle ∙ is in cc)

-- a call that begins where the last one has ended
led_anew : (limit seats : ℕ) (old new : Host) (l : Led limit seats old) → old.pending ≡ [] → old.handle.begun ≡ None
    → new.world ≡ old.world → new.steps ≡ old.steps → All IsWriters new.pending
    → Phase seats old.handle.region [] new.handle.begun new.handle.region new.announced new.pending → Led limit seats new
led_anew limit seats old new l none idle same still plain phase =
    record {
      before = l.before ++ l.since;
      since = [];
      from = old.handle.region;
      stays = finished limit seats old l none idle;
      world = same ∙ (l.world ∙ ap (world_after (first_world limit seats)) (sym (append-nil (l.before ++ l.since))));
      threads = tt;
      plain = plain;
      steps = still ∙ (l.steps ∙ ap word_steps (sym (append-nil (l.before ++ l.since))));
      order = λ some. absurd (some (All-nil IsNoLook));
      phase = phase;
    }

-- the events of a deletion, up to its stamp
stops_plain : (pending : List Event) (r : Region) (c : Chunk)
    → pending ++ Retires c.base c.length ∷ [] ≡ delete_events r.marked.marks c.base c.length → All IsWriters pending
stops_plain pending r c own =
    all_front IsWriters pending (Retires c.base c.length ∷ [])
    (subst (All IsWriters) (sym own)
    (log_writers (record no_details { base = c.base; len = c.length }) (log_of_delete r.marked.marks c.base c.length)))

-- a deletion with its stamp, after attempts at it
deletes : (seats : ℕ) (from region : Region) (own : List Event) (base stamp : ℕ) (c : Chunk) (announced made last : List Event) (r : Region)
    → r ≡ from → (d : IsDeleted r region base stamp) → d.chunk ≡ c
    → announced ++ Retires base c.length ∷ [] ≡ delete_events from.marked.marks base c.length → AreAttempts announced made
    → own ≡ made ++ last → last ≡ announced → IsCall seats from region (own ++ Retires base c.length ∷ [])
deletes seats from region own base stamp c announced made last r at d chunk ends tried own_is last_is =
    let there : announced ++ Retires base d.chunk.length ∷ [] ≡ delete_events r.marked.marks base d.chunk.length =
    subst (λ (e : Chunk). announced ++ Retires base e.length ∷ [] ≡ delete_events r.marked.marks base e.length) (sym chunk)
    (subst (λ (q : Region). announced ++ Retires base c.length ∷ [] ≡ delete_events q.marked.marks base c.length) (sym at) ends) in
    subst (λ (q : Region). IsCall seats q region (own ++ Retires base c.length ∷ [])) at
    (Deletes base stamp d announced made there tried
    (ap (λ (z : List Event). z ++ Retires base c.length ∷ []) own_is
    ∙ (append_assoc made last (Retires base c.length ∷ [])
    ∙ (ap (λ (z : List Event). made ++ (z ++ Retires base c.length ∷ [])) last_is
    ∙ (ap (λ (e : Chunk). made ++ (announced ++ Retires base e.length ∷ [])) (sym chunk)
    ∙ ap (λ (z : List Event). made ++ z) there)))))

-- a stamp is none of the events that a host makes
stamp_not : (base len : ℕ) (announced : List Event) → announced ≡ Retires base len ∷ [] → ¬ All IsMadeByHost announced
stamp_not base len announced is by_host = All-head IsMadeByHost (Retires base len) [] (subst (All IsMadeByHost) is by_host)

-- the last call of a deletion
phase_ended : (seats : ℕ) (from : Region) (own : List Event) (old new : RegionHandleState) (announced pending then later : List Event)
    (stamp : ℕ) (is : HasEndedDeletion old new stamp) → pending ≡ [] → later ≡ Retires is.chunk.base is.chunk.length ∷ [] → then ≡ later
    → Phase seats from own old.begun old.region announced pending → Phase seats from own new.begun new.region then later
phase_ended seats from own old new announced pending then later stamp is none stamped same (Calling whole idle pages call again) =
    absurd (let bad : None ≡ Some is.chunk = sym idle ∙ is.begun in cc)
phase_ended seats from own old new announced pending then later stamp is none stamped same (Deleting c begun at live room ends a) =
    let here : Some c ≡ Some is.chunk = sym begun ∙ is.begun in
    let one : c ≡ is.chunk = cc in
    Calling new.region (ap (λ (h : RegionHandleState). h.begun) is.others) refl
    (subst (λ (z : List Event). IsCall seats from new.region (own ++ z)) (sym stamped)
    (deletes seats from new.region own is.chunk.base stamp is.chunk announced a.made a.last old.region at is.deleted is.same
    (subst (λ (e : Chunk). announced ++ Retires e.base e.length ∷ [] ≡ delete_events from.marked.marks e.base e.length) one ends)
    a.tried a.own_is
    (sym (append-nil a.last) ∙ (ap (λ (z : List Event). a.last ++ z) (sym none) ∙ a.last_is))))
    (λ by_host. absurd (stamp_not is.chunk.base is.chunk.length then (same ∙ stamped) by_host))

-- the events of a call are its first attempt
phase_announced : (seats : ℕ) (from whole : Region) (announced pending : List Event) → announced ≡ pending → IsCall seats from whole pending
    → IsCall seats from whole announced × Attempting announced [] pending
phase_announced seats from whole announced pending is call = (
  subst (IsCall seats from whole) (sym is) call,
  subst (Attempting announced []) is (attempting_first announced),
)

-- attempts at events without a look are without one
attempts_look_not : (events made : List Event) → AreAttempts events made → All IsNoLook events → All IsNoLook made
attempts_look_not events [] NoneYet none = All-nil IsNoLook
attempts_look_not events _ (OneMore {earlier} first part rest own) none =
    All-append IsNoLook earlier part (attempts_look_not events earlier first none)
    (all_front IsNoLook part rest (subst (All IsNoLook) (sym own) none))

-- while a deletion is under way, there was no look since it began
deletion_looks_not : (limit seats : ℕ) (host : Host) (c : Chunk) (l : Led limit seats host) → host.handle.begun ≡ Some c
    → All IsNoLook (writers l.since)
deletion_looks_not limit seats host c l begun = go l.phase
  where
    go : Phase seats l.from (writers l.since) host.handle.begun host.handle.region host.announced host.pending
        → All IsNoLook (writers l.since)
    go (Calling whole idle pages call again) = absurd (let bad : None ≡ Some c = sym idle ∙ begun in cc)
    go (Deleting d is at live room ends a) =
        let none : All IsNoLook host.announced =
        by_host_look_not host.announced (rest_by_host l.from.marked.marks d.base d.length [] host.announced ends) in
        subst (All IsNoLook) (sym a.own_is)
        (All-append IsNoLook a.made a.last (attempts_look_not host.announced a.made a.tried none)
        (all_front IsNoLook a.last host.pending (subst (All IsNoLook) (sym a.last_is) none)))

-- a host is led over a call
led_calls : (limit seats : ℕ) (old new : Host) → Led limit seats old → old.pending ≡ [] → IsHandleCall seats old.handle new.handle new.pending
    → new.world ≡ old.world → new.steps ≡ old.steps → new.announced ≡ new.pending → Led limit seats new
led_calls limit seats old new l none (Changes idle then call) same still announced =
    led_anew limit seats old new l none idle same still (call_writers seats old.handle.region new.handle.region new.pending call)
    (Calling new.handle.region then refl call
    (λ by_host. phase_announced seats old.handle.region new.handle.region new.announced new.pending announced call))
led_calls limit seats old new l none (Begins c begun own) same still announced =
    led_anew limit seats old new l none begun.none same still (stops_plain new.pending old.handle.region c own)
    (Deleting c (ap (λ (h : RegionHandleState). h.begun) begun.others) (ap (λ (h : RegionHandleState). h.region) begun.others) begun.live begun.room
    (ap (λ (z : List Event). z ++ Retires c.base c.length ∷ []) announced ∙ own)
    (subst (Attempting new.announced []) announced (attempting_first new.announced)))
led_calls limit seats old new l none (Ends stamp is stamped) same still announced =
    record {
      before = l.before;
      since = l.since;
      from = l.from;
      stays = l.stays;
      world = same ∙ l.world;
      threads = l.threads;
      plain = subst (All IsWriters) (sym stamped) (one_writers (Retires is.chunk.base is.chunk.length) refl);
      steps = still ∙ l.steps;
      order = λ some. absurd (some (deletion_looks_not limit seats old is.chunk l is.begun));
      phase = phase_ended seats l.from (writers l.since) old.handle new.handle old.announced old.pending new.announced new.pending
          stamp is none stamped announced l.phase;
    }

-- a call that leaves the region as it is, but for pages
led_asks : (limit seats : ℕ) (old : Host) (handle : RegionHandleState) → Led limit seats old → handle.begun ≡ old.handle.begun
    → handle.region ≡ record old.handle.region { made = handle.region.made } → Led limit seats (record old { handle = handle })
led_asks limit seats old handle l begun region = go l.phase
  where
    order : ¬ All IsNoLook (writers l.since) → All IsNoLook old.pending → BeginsWith old.steps handle.region.keeper.trail
    order some none =
        subst (λ (k : KeeperState). BeginsWith old.steps k.trail) (sym (ap (λ (r : Region). r.keeper) region)) (l.order some none)

    go : Phase seats l.from (writers l.since) old.handle.begun old.handle.region old.announced old.pending
        → Led limit seats (record old { handle = handle })
    go (Calling whole idle pages call again) =
        record {
          before = l.before;
          since = l.since;
          from = l.from;
          stays = l.stays;
          world = l.world;
          threads = l.threads;
          plain = l.plain;
          steps = l.steps;
          order = order;
          phase = Calling whole (begun ∙ idle) (region ∙ ap (λ (r : Region). record r { made = handle.region.made }) pages) call again;
        }
    go (Deleting c is at live room ends a) =
        let from : handle.region ≡ record l.from { made = handle.region.made } =
        region ∙ ap (λ (r : Region). record r { made = handle.region.made }) at in
        record {
          before = l.before;
          since = l.since;
          from = handle.region;
          stays = pages_stay limit seats l.before l.from handle.region l.stays from;
          world = l.world;
          threads = l.threads;
          plain = l.plain;
          steps = l.steps;
          order = order;
          phase = Deleting c (begun ∙ is) refl
              (subst (λ (chunks : List Chunk). IsLiveAt chunks c.base c) (sym (ap (λ (r : Region). r.chunks) from)) live)
              (subst (λ (k : KeeperState). k.numbers.generation < 4611686018427387904) (sym (ap (λ (r : Region). r.keeper) from)) room)
              (ends ∙ ap (λ (m : MarkedText). delete_events m.marks c.base c.length) (sym (ap (λ (r : Region). r.marked) from))) a;
        }

-- what a host makes is the writer's
by_host_writers : (events : List Event) → All IsMadeByHost events → All IsWriters events
by_host_writers events all = All-weaker IsMadeByHost IsWriters by_host events all
  where
    by_host : (event : Event) → IsMadeByHost event → IsWriters event
    by_host (Puts at byte) is = refl
    by_host Serializes is = refl
    by_host (Marks at marks) is = refl
    by_host _ is = absurd is

-- the events of a phase are to be made anew
phase_anew : (seats : ℕ) (from : Region) (own : List Event) (begun : Option Chunk) (region : Region) (announced pending : List Event)
    → All IsMadeByHost announced → Phase seats from own begun region announced pending
    → Phase seats from own begun region announced announced
phase_anew seats from own begun region announced pending by_host (Calling whole idle pages call again) =
    let a = again by_host in
    let more : AreAttempts announced (a.1.made ++ a.1.last) = OneMore a.1.tried a.1.last pending a.1.last_is in
    Calling whole idle pages
    (subst (λ (z : List Event). IsCall seats from whole (z ++ announced)) (sym a.1.own_is)
    (call_again seats from whole announced (a.1.made ++ a.1.last) a.0 by_host more))
    (λ all. (a.0, attempting_anew announced own pending a.1))
phase_anew seats from own begun region announced pending by_host (Deleting c is at live room ends a) =
    Deleting c is at live room ends (attempting_anew announced own pending a)

-- the last call's events are to be made anew
led_restarts : (limit seats : ℕ) (old : Host) → Led limit seats old → All IsMadeByHost old.announced
    → Led limit seats (record old { pending = old.announced })
led_restarts limit seats old l by_host =
    record {
      before = l.before;
      since = l.since;
      from = l.from;
      stays = l.stays;
      world = l.world;
      threads = l.threads;
      plain = by_host_writers old.announced by_host;
      steps = l.steps;
      order = λ some _. l.order some (by_host_look_not old.pending (pending_by_host limit seats old l by_host));
      phase = phase_anew seats l.from (writers l.since) old.handle.begun old.handle.region old.announced old.pending by_host l.phase;
    }

-- a host is led over a step
led_step : (limit seats : ℕ) (old new : Host) → Led limit seats old → IsHostStep seats old new → IsInOrder old new → Led limit seats new
led_step limit seats old new l (Runs event is may same) order = subst (Led limit seats) (sym same) (led_runs limit seats old event l is may)
led_step limit seats old new l (Makes event is same) order =
    subst (Led limit seats) (sym same) (led_makes limit seats old event new.pending l is (subst (IsInOrder old) same order))
led_step limit seats old new l (Restarts by_host same) order = subst (Led limit seats) (sym same) (led_restarts limit seats old l by_host)
led_step limit seats old new l (Calls none call same) order =
    led_calls limit seats old new l none call (ap (λ (h : Host). h.world) same) (ap (λ (h : Host). h.steps) same)
    (ap (λ (h : Host). h.announced) same)
led_step limit seats old new l (Asks begun region same) order =
    subst (Led limit seats) (sym same) (led_asks limit seats old new.handle l begun region)

-- the first state of a host is led
led_first : (bundles seats : ℕ) (host : Host) → IsFirst bundles seats host.handle
    → host.world ≡ first_world (65536 + 32 * bundles) seats → host.steps ≡ [] → host.pending ≡ [] → host.announced ≡ []
    → Led (65536 + 32 * bundles) seats host
led_first bundles seats host is world steps none unannounced =
    let numbers : host.handle.region.keeper.numbers ≡ first_keeper_numbers seats = ap (λ (k : KeeperState). k.numbers) is.keeper in
    record {
      before = [];
      since = [];
      from = host.handle.region;
      stays = record {
        led = begins_unused (65536 + 32 * bundles) seats host.handle.region is.lawful is.marked is.chunks numbers;
        whole = whole_serialized (unused_text (65536 + 32 * bundles)).marks (unused_text (65536 + 32 * bundles)).bytes;
        region = subst (λ (m : MarkedText). IsRegion m host.handle.region.chunks) (sym is.marked)
            (subst (IsRegion (unused_text (65536 + 32 * bundles))) (sym is.chunks)
            (region_of_new (unused_text (65536 + 32 * bundles)) (65536 + 32 * bundles, is.lawful, refl)));
        keeper = subst (KnowsSteps (65536 + 32 * bundles) seats []) (sym is.keeper)
            (knows_first (65536 + 32 * bundles) seats host.handle.region.keeper);
      };
      world = world;
      threads = tt;
      plain = subst (All IsWriters) (sym none) (All-nil IsWriters);
      steps = steps;
      order = λ some. absurd (some (All-nil IsNoLook));
      phase = Calling host.handle.region is.begun refl (Keeps refl none)
          (λ by_host. phase_announced seats host.handle.region host.handle.region host.announced host.pending (unannounced ∙ sym none)
          (Keeps refl none));
    }

-- every state of a host that is reached is led
pub led : (bundles seats : ℕ) (host : Host) → IsReached bundles seats host → Led (65536 + 32 * bundles) seats host
led bundles seats host (First is world steps none unannounced) = led_first bundles seats host is world steps none unannounced
led bundles seats host (Then {old} before step order) =
    led_step (65536 + 32 * bundles) seats old host (led bundles seats old before) step order
