-- What holds in every state that a host can reach.
use Rattle.std.proofs.Common.{◌≡◌, ℕ, ◌+◌, ◌-◌, ◌*◌, ◌<◌, inl, inr, Some, None, List, [], ◌∷◌, ◌++◌, filter, replicate, refl, ◌∙◌, sym, ap, subst}
use Rattle.std.specs.Prelude.{All}
use Rattle.std.specs.List.{range_with_len}
use Rattle.std.proofs.lemmas.List.{append-nil, append_assoc}
use Rattle.std.proofs.lemmas.List.Elements.{All-append}
use Rattle.nc_decode.specs.Bundles.{IsLawfulLimit}
use Rattle.nc_text.specs.Machine.{IsConfined}
use Rattle.nc_text.specs.MarkedText.{MarkedText, with_span}
use Rattle.nc_text.proofs.Offered.{confined_if_closed}
use Rattle.nc_gens.specs.declared.view.WordStep.{WordStep}
use Rattle.nc_gens.specs.Trail.{BeginsWith, is_by_keeper}
use Rattle.nc_gens.specs.Seen.{KeeperState, KeeperSteps, least_number}
use Rattle.nc_list.specs.declared.chunk.Chunk.{Chunk}
use Rattle.nc_region.specs.schedules.Spans.{RetiredSpan}
use Rattle.nc_region.specs.schedules.World.{World, first_world, IsViewOf, NoneIsWithin}
use Rattle.nc_region.specs.schedules.Events.{Event, Puts, Retires, Frees, after, world_after, AreAllowed}
use Rattle.nc_text.specs.Places.{InRegion}
use Rattle.nc_region.proofs.Offered.{after_append, allowed_append, safe_after, none_is_within_freed, keeps_reached, Keeps as HasInvariant}
use Rattle.nc_region.proofs.Offered.{allowed_front}
use Rattle.nc_acts.specs.Log.{only_acts}
use Rattle.nc_region.specs.Deletion.{IsReclaimed, freed, unmarkings}
use Rattle.nc_region.specs.Quiet.{retired_spans}
use Rattle.nc_region.specs.Region.{Region, IsRegion}
use Rattle.nc_histories.specs.Interleaving.{writers, IsKeepers, IsNoLook, ThreadsMay}
use Rattle.nc_histories.specs.Steps.{word_steps}
use Rattle.nc_histories.specs.Calls.{KnowsNoMore, StandsFor, HasLedTo, no_details, events_of_log, delete_events, reclaim_events}
use Rattle.nc_histories.specs.Histories.{IsRefusal, IsCall, Creates, Patches, Deletes, Reclaims, UsesKeeper, Refuses, Keeps, AllStand}
use Rattle.nc_histories.proofs.Offered.{goes_on, created, deleted}
use Rattle.nc_histories.proofs.Offered.{refused}
use Rattle.nc_histories.proofs.Offered.{keeper_interleaved}
use Rattle.nc_histories.proofs.Offered.{patched}
use Rattle.nc_histories.proofs.Offered.{reclaimed}
use Rattle.nc_histories.proofs.Offered.{still_created, still_patched, still_deleted, still_reclaimed}
use Rattle.nc_histories.proofs.Offered.{refusal_same}
use Rattle.nc_histories.proofs.Offered.{Grows, StaysWhole, whole_append, whole_front, fetch_whole_after}
use Rattle.nc_histories.specs.Whole.{AllFetchWhole}
use Rattle.nc_host_handles.specs.RegionHandle.{IsLiveAt}
use Rattle.nc_host_law.specs.Hosts.{Host, IsReached}
use Rattle.nc_histories.proofs.Offered.{Stays, same_region, all_stand}
use Rattle.nc_region.proofs.Offered.{deleted_region}
use Rattle.nc_host_law.proofs.Deleting.{deleted_there}
use Rattle.nc_host_law.proofs.Interleaving.{IsWriters, writers_own, threads_append, threads_none, one_writers}
use Rattle.nc_histories.proofs.Offered.{call_steps, knows_more, knows_as_much, looks_or_not, steps_append}
use Rattle.nc_host_law.proofs.Looked.{frees_no_look, only_looks, rest_looks_not}
use Rattle.nc_host_law.proofs.Reaching.{begins_longer, Attempting, Phase, Calling, Deleting, Led, finished, led}

-- all events so far are allowed, and leave instructions whole, and those pending too, unless a look is still pending
data Goes (w : World) (so_far pending : List Event) : Type 0 where
  Done : AreAllowed w (so_far ++ pending) → StaysWhole w (so_far ++ pending) → Goes w so_far pending
  Looking : AreAllowed w so_far → StaysWhole w so_far
      → ((event : Event) (later : List Event) → pending ≡ event ∷ later → IsNoLook event → ⊥) → Goes w so_far pending

-- events that lead to a region are allowed and leave instructions whole
led_goes : (limit seats : ℕ) (before since pending : List Event) (from r : Region) → Stays limit seats before from
    → Grows limit seats before (since ++ pending) r → Goes (first_world limit seats) (before ++ since) pending
led_goes limit seats before since pending from r stays g =
    Done (subst (AreAllowed (first_world limit seats)) (sym (append_assoc before since pending)) g.led.allowed)
    (subst (StaysWhole (first_world limit seats)) (sym (append_assoc before since pending))
    (whole_append (first_world limit seats) before (since ++ pending) stays.whole g.whole))

-- the keeper's events are allowed
keepers_allowed : (limit seats : ℕ) (before events : List Event) (r : Region) → HasLedTo limit seats before r
    → All IsKeepers (writers events) → ThreadsMay (world_after (first_world limit seats) before) events
    → AreAllowed (first_world limit seats) (before ++ events)
keepers_allowed limit seats before events r h own threads =
    let w = world_after (first_world limit seats) before in
    let k = keeper_interleaved w events w.keeper w.seats own threads in
    allowed_append (first_world limit seats) before events h.allowed k.allowed

-- the keeper's events leave instructions whole
keepers_whole : (limit seats : ℕ) (before events : List Event) (r : Region) → Stays limit seats before r
    → All IsKeepers (writers events) → ThreadsMay (world_after (first_world limit seats) before) events
    → StaysWhole (first_world limit seats) (before ++ events)
keepers_whole limit seats before events r stays own threads =
    let w = world_after (first_world limit seats) before in
    let k = keeper_interleaved w events w.keeper w.seats own threads in
    whole_append (first_world limit seats) before events stays.whole k.whole

-- the events of a reclaim are allowed and leave instructions whole
reclaim_goes : (limit seats : ℕ) (before since pending : List Event) (from region : Region) (count : ℕ) → Stays limit seats before from
    → ThreadsMay (world_after (first_world limit seats) before) since
    → ThreadsMay (world_after (first_world limit seats) before) (since ++ pending)
    → writers (since ++ pending) ≡ writers since ++ pending → IsReclaimed from region count
    → writers since ++ pending ≡ reclaim_events seats (least_number region.keeper.numbers) from.chunks
    → (All IsNoLook pending → KnowsNoMore region.keeper.numbers (world_after (first_world limit seats) (before ++ (since ++ pending))).keeper)
    → Goes (first_world limit seats) (before ++ since) pending
reclaim_goes limit seats before since pending from region count stays threads all_threads own is events found =
    elim (looks_or_not pending) [
      | inl no_look ↦
          led_goes limit seats before since pending from region stays
          (reclaimed limit seats before (since ++ pending) from region count stays.led stays.region is (own ∙ events) all_threads
          (found no_look))
      | inr some ↦
          let looks : All IsKeepers (writers since) =
          only_looks (writers since) pending (range_with_len 0 seats)
          (events_of_log (record no_details { seats = seats; spans = retired_spans from.chunks })
          (only_acts (unmarkings (freed (least_number region.keeper.numbers) from.chunks)))) events
          (frees_no_look (record no_details { seats = seats; spans = retired_spans from.chunks })
          (freed (least_number region.keeper.numbers) from.chunks)) some in
          Looking (keepers_allowed limit seats before since from stays.led looks threads)
          (keepers_whole limit seats before since from stays looks threads)
          (λ event later at no_look. some (subst (All IsNoLook) (sym at)
          (rest_looks_not (writers since) later event (range_with_len 0 seats)
          (events_of_log (record no_details { seats = seats; spans = retired_spans from.chunks })
          (only_acts (unmarkings (freed (least_number region.keeper.numbers) from.chunks))))
          (ap (λ (z : List Event). writers since ++ z) (sym at) ∙ events) no_look
          (frees_no_look (record no_details { seats = seats; spans = retired_spans from.chunks })
          (freed (least_number region.keeper.numbers) from.chunks)))))
    ]

-- a call that reports its acts or uses the keeper
call_goes : (limit seats : ℕ) (before since pending : List Event) (from region : Region) → Stays limit seats before from
    → ThreadsMay (world_after (first_world limit seats) before) since
    → ThreadsMay (world_after (first_world limit seats) before) (since ++ pending)
    → writers (since ++ pending) ≡ writers since ++ pending
    → (All IsNoLook pending → KnowsNoMore region.keeper.numbers (world_after (first_world limit seats) (before ++ (since ++ pending))).keeper)
    → IsCall seats from region (writers since ++ pending) → Goes (first_world limit seats) (before ++ since) pending
call_goes limit seats before since pending from region stays some threads own found (Creates v valid lim is made tried same) =
    led_goes limit seats before since pending from region stays
    (created limit seats before (since ++ pending) from region v made stays.led stays.region valid lim is tried (own ∙ same) threads)
call_goes limit seats before since pending from region stays some threads own found (Patches at bytes news lawful b is made tried same) =
    led_goes limit seats before since pending from region stays
    (patched limit seats before (since ++ pending) from region at bytes news made stays.led stays.region lawful b is tried
    (own ∙ same) threads)
call_goes limit seats before since pending from region stays some threads own found (Deletes base stamp is stops made stamped tried same) =
    led_goes limit seats before since pending from region stays
    (deleted limit seats before (since ++ pending) from region base stamp stops made stays.led stays.region is stamped tried
    (own ∙ same) threads)
call_goes limit seats before since pending from region stays some threads own found (Reclaims count is same) =
    reclaim_goes limit seats before since pending from region count stays some threads own is same found
call_goes limit seats before since pending from region stays some threads own found (UsesKeeper marked chunks all steps range) =
    let keepers = subst (All IsKeepers) (sym own) all in
    Done (subst (AreAllowed (first_world limit seats)) (sym (append_assoc before since pending))
    (keepers_allowed limit seats before (since ++ pending) from stays.led keepers threads))
    (subst (StaysWhole (first_world limit seats)) (sym (append_assoc before since pending))
    (keepers_whole limit seats before (since ++ pending) from stays keepers threads))
call_goes limit seats before since pending from region stays some threads own found (Refuses is) =
    led_goes limit seats before since pending from region stays
    (refused limit seats before (since ++ pending) from region stays.led (subst (IsRefusal from region) (sym own) is) threads)
call_goes limit seats before since pending from region stays some threads own found (Keeps is same) =
    led_goes limit seats before since pending from region stays
    (goes_on limit seats before (since ++ pending) from region stays.led is (own ∙ same) threads)

-- a deletion, once its stamp is drawn
deletion_led : (limit seats : ℕ) (before since announced pending : List Event) (from : Region) (c : Chunk)
    (live : IsLiveAt from.chunks c.base c) → Stays limit seats before from → ThreadsMay (world_after (first_world limit seats) before) since
    → All IsWriters pending → from.keeper.numbers.generation < 4611686018427387904
    → announced ++ Retires c.base c.length ∷ [] ≡ delete_events from.marked.marks c.base c.length
    → Attempting announced (writers since) pending
    → Grows limit seats before (since ++ (pending ++ Retires c.base c.length ∷ [])) (deleted_region from live.0.0 c)
deletion_led limit seats before since announced pending from c live stays threads plain room ends a =
    let all : All IsWriters (pending ++ Retires c.base c.length ∷ []) =
    All-append IsWriters pending (Retires c.base c.length ∷ []) plain (one_writers (Retires c.base c.length) refl) in
    deleted limit seats before (since ++ (pending ++ Retires c.base c.length ∷ [])) from (deleted_region from live.0.0 c) c.base
    (from.keeper.numbers.generation + 1) announced a.made stays.led stays.region (deleted_there from c live room) ends a.tried
    (writers_own since (pending ++ Retires c.base c.length ∷ []) all
    ∙ (ap (λ (z : List Event). z ++ (pending ++ Retires c.base c.length ∷ [])) a.own_is
    ∙ (append_assoc a.made a.last (pending ++ Retires c.base c.length ∷ [])
    ∙ ap (λ (z : List Event). a.made ++ z)
    (sym (append_assoc a.last pending (Retires c.base c.length ∷ []))
    ∙ (ap (λ (z : List Event). z ++ Retires c.base c.length ∷ []) a.last_is ∙ ends)))))
    (threads_append (world_after (first_world limit seats) before) since (pending ++ Retires c.base c.length ∷ []) threads
    (threads_none (world_after (world_after (first_world limit seats) before) since) (pending ++ Retires c.base c.length ∷ []) all))

-- once no look is pending, the keeper knows no more than the world's will once the pending events are made
knows_then : (limit seats : ℕ) (host : Host) (l : Led limit seats host) (called : Region)
    → host.handle.region ≡ record called { made = host.handle.region.made } → IsCall seats l.from called (writers l.since ++ host.pending)
    → All IsNoLook host.pending
    → KnowsNoMore called.keeper.numbers (world_after (first_world limit seats) (l.before ++ (l.since ++ host.pending))).keeper
knows_then limit seats host l called pages call none =
    let own : writers (l.since ++ host.pending) ≡ writers l.since ++ host.pending = writers_own l.since host.pending l.plain in
    let steps = call_steps seats l.from called (writers l.since ++ host.pending) l.stays.keeper.bounds call in
    let more : host.steps ++ word_steps host.pending ≡ word_steps (l.before ++ (l.since ++ host.pending)) =
    ap (λ (h : List WordStep). h ++ word_steps host.pending) l.steps
    ∙ (sym (steps_append (l.before ++ l.since) host.pending) ∙ ap word_steps (append_assoc l.before l.since host.pending)) in
    knows_as_much called.keeper.numbers (world_after (first_world limit seats) (l.before ++ (l.since ++ host.pending))).keeper
    (knows_more limit seats l.before (l.since ++ host.pending) l.from.keeper called.keeper l.stays.keeper
    (subst (λ (z : List Event). KeeperSteps l.from.keeper called.keeper (filter is_by_keeper (word_steps z))) (sym own) steps)
    (λ some. subst (λ (h : List WordStep). BeginsWith h called.keeper.trail) more
    (begins_longer host.steps (word_steps host.pending) called.keeper.trail
    (subst (λ (k : KeeperState). BeginsWith host.steps k.trail) (ap (λ (r : Region). r.keeper) pages)
    (l.order (λ all. some (subst (All IsNoLook) (sym own) (All-append IsNoLook (writers l.since) host.pending all none))) none))))).same

-- in every state of a host the events so far are allowed and leave instructions whole
goes : (limit seats : ℕ) (host : Host) (l : Led limit seats host) → Goes (first_world limit seats) (l.before ++ l.since) host.pending
goes limit seats host l = go l.phase
  where
    go : Phase seats l.from (writers l.since) host.handle.begun host.handle.region host.announced host.pending
        → Goes (first_world limit seats) (l.before ++ l.since) host.pending
    go (Calling called idle pages call again) =
        call_goes limit seats l.before l.since host.pending l.from called l.stays l.threads
        (threads_append (world_after (first_world limit seats) l.before) l.since host.pending l.threads
        (threads_none (world_after (world_after (first_world limit seats) l.before) l.since) host.pending l.plain))
        (writers_own l.since host.pending l.plain)
        (knows_then limit seats host l called pages call)
        call
    go (Deleting c is at live room ends a) =
        let g = deletion_led limit seats l.before l.since host.announced host.pending l.from c live l.stays l.threads l.plain room ends a in
        let parts : l.before ++ (l.since ++ (host.pending ++ Retires c.base c.length ∷ [])) ≡
        ((l.before ++ l.since) ++ host.pending) ++ Retires c.base c.length ∷ [] =
        sym (append_assoc l.before l.since (host.pending ++ Retires c.base c.length ∷ []))
        ∙ sym (append_assoc (l.before ++ l.since) host.pending (Retires c.base c.length ∷ [])) in
        Done (allowed_front (first_world limit seats) ((l.before ++ l.since) ++ host.pending) (Retires c.base c.length ∷ [])
        (subst (AreAllowed (first_world limit seats)) parts g.led.allowed))
        (whole_front (first_world limit seats) ((l.before ++ l.since) ++ host.pending) (Retires c.base c.length ∷ [])
        (subst (StaysWhole (first_world limit seats)) parts
        (whole_append (first_world limit seats) l.before (l.since ++ (host.pending ++ Retires c.base c.length ∷ [])) l.stays.whole g.whole)))

-- the threads of a host stand where they may
stand_there : (limit seats : ℕ) (host : Host) → Led limit seats host → AllStand host.world
stand_there limit seats host l =
    subst AllStand (sym l.world) (go (goes limit seats host l))
  where
    lawful : IsLawfulLimit limit
    lawful = l.stays.led.lawful

    go : Goes (first_world limit seats) (l.before ++ l.since) host.pending
        → AllStand (world_after (first_world limit seats) (l.before ++ l.since))
    go (Done allowed whole) =
        all_stand (world_after (first_world limit seats) (l.before ++ l.since))
        (safe_after limit seats (l.before ++ l.since) host.pending lawful allowed)
    go (Looking allowed whole none) =
        all_stand (world_after (first_world limit seats) (l.before ++ l.since))
        (safe_after limit seats (l.before ++ l.since) [] lawful
        (subst (AreAllowed (first_world limit seats)) (sym (append-nil (l.before ++ l.since))) allowed))

pub stands : (bundles seats : ℕ) (host : Host) → IsReached bundles seats host → AllStand host.world
stands bundles seats host reached = stand_there (65536 + 32 * bundles) seats host (led bundles seats host reached)

-- the threads of a host fetch whole instructions
fetch_there : (limit seats : ℕ) (host : Host) → Led limit seats host → AllFetchWhole host.world
fetch_there limit seats host l =
    subst AllFetchWhole (sym l.world) (go (goes limit seats host l))
  where
    go : Goes (first_world limit seats) (l.before ++ l.since) host.pending
        → AllFetchWhole (world_after (first_world limit seats) (l.before ++ l.since))
    go (Done allowed whole) = fetch_whole_after limit seats (l.before ++ l.since) host.pending l.stays.led.lawful allowed whole
    go (Looking allowed whole none) =
        fetch_whole_after limit seats (l.before ++ l.since) [] l.stays.led.lawful
        (subst (AreAllowed (first_world limit seats)) (sym (append-nil (l.before ++ l.since))) allowed)
        (subst (StaysWhole (first_world limit seats)) (sym (append-nil (l.before ++ l.since))) whole)

pub fetch_whole : (bundles seats : ℕ) (host : Host) → IsReached bundles seats host → AllFetchWhole host.world
fetch_whole bundles seats host reached = fetch_there (65536 + 32 * bundles) seats host (led bundles seats host reached)

-- no thread of a host is in a span that is freed next
freed_there : (limit seats : ℕ) (host : Host) (span : RetiredSpan) (later : List Event) → Led limit seats host
    → host.pending ≡ Frees span ∷ later → NoneIsWithin host.world span
freed_there limit seats host span later l is =
    subst (λ (w : World). NoneIsWithin w span) (sym l.world) (go (goes limit seats host l))
  where
    go : Goes (first_world limit seats) (l.before ++ l.since) host.pending
        → NoneIsWithin (world_after (first_world limit seats) (l.before ++ l.since)) span
    go (Done allowed whole) =
        none_is_within_freed limit seats (l.before ++ l.since) later span l.stays.led.lawful
        (subst (λ (z : List Event). AreAllowed (first_world limit seats) ((l.before ++ l.since) ++ z)) is allowed)
    go (Looking allowed whole none) = absurd (none (Frees span) later is tt)

pub frees : (bundles seats : ℕ) (host : Host) (span : RetiredSpan) (later : List Event) → IsReached bundles seats host
    → host.pending ≡ Frees span ∷ later → NoneIsWithin host.world span
frees bundles seats host span later reached is =
    freed_there (65536 + 32 * bundles) seats host span later (led bundles seats host reached) is

-- the later events of an allowed schedule are allowed where they stand
allowed_back : (w : World) (events later : List Event) → AreAllowed w (events ++ later) → AreAllowed (world_after w events) later
allowed_back w [] later a = a
allowed_back w (event ∷ events) later a = allowed_back (after w event) events later a.1

-- a store that a host makes next is in the region
lies_there : (limit seats : ℕ) (host : Host) (at byte : ℕ) (later : List Event) → Led limit seats host
    → host.pending ≡ Puts at byte ∷ later → InRegion host.world.marked.bytes at
lies_there limit seats host at byte later l is =
    subst (λ (w : World). InRegion w.marked.bytes at) (sym l.world) (go (goes limit seats host l))
  where
    go : Goes (first_world limit seats) (l.before ++ l.since) host.pending
        → InRegion (world_after (first_world limit seats) (l.before ++ l.since)).marked.bytes at
    go (Done allowed whole) =
        (allowed_back (first_world limit seats) (l.before ++ l.since) (Puts at byte ∷ later)
        (subst (λ (z : List Event). AreAllowed (first_world limit seats) ((l.before ++ l.since) ++ z)) is allowed)).0.0
    go (Looking allowed whole none) = absurd (none (Puts at byte) later is tt)

pub lies : (bundles seats : ℕ) (host : Host) (at byte : ℕ) (later : List Event) → IsReached bundles seats host
    → host.pending ≡ Puts at byte ∷ later → InRegion host.world.marked.bytes at
lies bundles seats host at byte later reached is =
    lies_there (65536 + 32 * bundles) seats host at byte later (led bundles seats host reached) is

-- the memory keeps what every allowed schedule keeps
keeps_there : (limit seats : ℕ) (host : Host) → Led limit seats host → HasInvariant host.world
keeps_there limit seats host l =
    subst HasInvariant (sym l.world) (go (goes limit seats host l))
  where
    go : Goes (first_world limit seats) (l.before ++ l.since) host.pending → HasInvariant (world_after (first_world limit seats) (l.before ++ l.since))
    go (Done allowed whole) =
        keeps_reached limit seats (l.before ++ l.since) l.stays.led.lawful
        (allowed_front (first_world limit seats) (l.before ++ l.since) host.pending allowed)
    go (Looking allowed whole none) = keeps_reached limit seats (l.before ++ l.since) l.stays.led.lawful allowed

-- the memory is confined in every view, also between two stores
pub views : (bundles seats : ℕ) (host : Host) (view : List ℕ) → IsReached bundles seats host → IsViewOf host.world view → IsConfined view
views bundles seats host view reached is =
    confined_if_closed view host.world.marked.marks
    ((keeps_there (65536 + 32 * bundles) seats host (led bundles seats host reached)).closed view is)

-- the memory where nothing is pending
memory_there : (limit seats : ℕ) (host : Host) → Led limit seats host → host.pending ≡ [] → host.handle.begun ≡ None
    → StandsFor host.world host.handle.region
memory_there limit seats host l none idle =
    subst (λ (w : World). StandsFor w host.handle.region) (sym l.world) (finished limit seats host l none idle).led.stands

pub memory : (bundles seats : ℕ) (host : Host) → IsReached bundles seats host → host.pending ≡ [] → host.handle.begun ≡ None
    → StandsFor host.world host.handle.region
memory bundles seats host reached none idle =
    memory_there (65536 + 32 * bundles) seats host (led bundles seats host reached) none idle

-- the memory where the stops of a deletion are made
abbrev stops_in : MarkedText → Chunk → MarkedText
stops_in marked c = record marked { bytes = with_span marked.bytes (c.base - 65536) (replicate c.length 244) }

stopped_there : (limit seats : ℕ) (host : Host) (c : Chunk) → Led limit seats host → host.pending ≡ [] → host.handle.begun ≡ Some c
    → host.world.marked ≡ stops_in host.handle.region.marked c
stopped_there limit seats host c l none begun = go l.phase
  where
    go : Phase seats l.from (writers l.since) host.handle.begun host.handle.region host.announced host.pending
        → host.world.marked ≡ stops_in host.handle.region.marked c
    go (Calling called idle pages call again) = absurd (let bad : None ≡ Some c = sym idle ∙ begun in cc)
    go (Deleting d is at live room ends a) =
        let here : Some d ≡ Some c = sym is ∙ begun in
        let same : d ≡ c = cc in
        let h = (deletion_led limit seats l.before l.since host.announced host.pending l.from d live l.stays l.threads l.plain room ends
        a).led in
        let stamped : world_after (first_world limit seats) (l.before ++ (l.since ++ (host.pending ++ Retires d.base d.length ∷ [])))
        ≡ world_after host.world (Retires d.base d.length ∷ []) =
        ap (λ (z : List Event). world_after (first_world limit seats) (l.before ++ (l.since ++ (z ++ Retires d.base d.length ∷ [])))) none
        ∙ (ap (world_after (first_world limit seats)) (sym (append_assoc l.before l.since (Retires d.base d.length ∷ [])))
        ∙ (after_append (first_world limit seats) (l.before ++ l.since) (Retires d.base d.length ∷ [])
        ∙ ap (λ (w : World). world_after w (Retires d.base d.length ∷ [])) (sym l.world))) in
        sym (ap (λ (w : World). w.marked) stamped)
        ∙ (h.stands.marked
        ∙ (ap (λ (r : Region). stops_in r.marked d) (sym at) ∙ ap (λ (e : Chunk). stops_in host.handle.region.marked e) same))

pub stopped : (bundles seats : ℕ) (host : Host) (c : Chunk) → IsReached bundles seats host → host.pending ≡ [] → host.handle.begun ≡ Some c
    → host.world.marked ≡ stops_in host.handle.region.marked c
stopped bundles seats host c reached none begun =
    stopped_there (65536 + 32 * bundles) seats host c (led bundles seats host reached) none begun

-- a call leaves a region
call_region : (seats : ℕ) (old new : Region) (own : List Event) → IsRegion old.marked old.chunks → IsCall seats old new own
    → IsRegion new.marked new.chunks
call_region seats old new own region (Creates v valid lim is made tried same) = still_created old new v region valid lim is
call_region seats old new own region (Patches at bytes news lawful b is made tried same) =
    still_patched old new at bytes news region lawful b is
call_region seats old new own region (Deletes base stamp is stops made stamped tried same) = still_deleted old new base stamp region is
call_region seats old new own region (Reclaims count is same) = still_reclaimed old new count region is
call_region seats old new own region (UsesKeeper marked chunks all steps range) = same_region old new marked chunks region
call_region seats old new own region (Refuses is) =
    let pages = refusal_same old new own is in
    same_region old new (ap (λ (r : Region). r.marked) pages) (ap (λ (r : Region). r.chunks) pages) region
call_region seats old new own region (Keeps is same) =
    same_region old new (ap (λ (r : Region). r.marked) is) (ap (λ (r : Region). r.chunks) is) region

-- the handle's region is one
region_there : (limit seats : ℕ) (host : Host) → Led limit seats host → IsRegion host.handle.region.marked host.handle.region.chunks
region_there limit seats host l = go l.phase
  where
    go : Phase seats l.from (writers l.since) host.handle.begun host.handle.region host.announced host.pending
        → IsRegion host.handle.region.marked host.handle.region.chunks
    go (Calling called idle pages call again) =
        same_region called host.handle.region (ap (λ (r : Region). r.marked) pages) (ap (λ (r : Region). r.chunks) pages)
        (call_region seats l.from called (writers l.since ++ host.pending) l.stays.region call)
    go (Deleting c is at live room ends a) =
        same_region l.from host.handle.region (ap (λ (r : Region). r.marked) at) (ap (λ (r : Region). r.chunks) at) l.stays.region

pub is_region : (bundles seats : ℕ) (host : Host) → IsReached bundles seats host → IsRegion host.handle.region.marked host.handle.region.chunks
is_region bundles seats host reached = region_there (65536 + 32 * bundles) seats host (led bundles seats host reached)

-- the text of a host that is reached is confined
pub confined : (bundles seats : ℕ) (host : Host) → IsReached bundles seats host → IsConfined host.handle.region.marked.bytes
confined bundles seats host reached =
    confined_if_closed host.handle.region.marked.bytes host.handle.region.marked.marks (is_region bundles seats host reached).whole.closed
