-- What every history of a region keeps.
use Rattle.std.proofs.Common.{◌≡◌, ℕ, List, [], ◌∷◌, ◌++◌, refl, sym, ap, subst}
use Rattle.std.specs.Prelude.{All, IfSome}
use Rattle.std.proofs.lemmas.List.{append-nil}
use Rattle.std.proofs.lemmas.List.Elements.{All-nil, All-weaker}
use Rattle.std.proofs.lemmas.Option.{IfSome_then}
use Rattle.nc_text.specs.Machine.{IsConfined, IsSafe}
use Rattle.nc_text.specs.Headline.{Stands}
use Rattle.nc_text.specs.MarkedText.{MarkedText, unused_text}
use Rattle.nc_text.proofs.Offered.{confined_if_closed, stands_if_safe}
use Rattle.nc_gens.specs.Trail.{BeginsWith}
use Rattle.nc_gens.specs.Seen.{KeeperSteps, first_keeper}
use Rattle.nc_region.specs.schedules.Spans.{RetiredSpan}
use Rattle.nc_region.specs.schedules.World.{World, Seat, first_world, IsViewOf, AllStandSafe, NoneIsWithin}
use Rattle.nc_region.specs.schedules.Events.{Event, Frees, world_after, AreAllowed}
use Rattle.nc_region.proofs.Offered.{safe_after, none_is_within_freed}
use Rattle.nc_region.specs.Region.{Region, IsRegion}
use Rattle.nc_region.proofs.Offered.{region_of_new}
use Rattle.nc_histories.specs.Interleaving.{writers, IsNoLook, ThreadsMay}
use Rattle.nc_histories.specs.Steps.{word_steps}
use Rattle.nc_histories.specs.Calls.{KnowsNoMore, StandsFor, HasLedTo}
use Rattle.nc_histories.specs.Histories.{IsCall, Creates, Patches, Deletes, Reclaims, UsesKeeper, Refuses, Keeps, Turn, AreTurns, IsHistory}
use Rattle.nc_histories.specs.Histories.{happened, region_at_end, AllStand}
use Rattle.nc_histories.specs.Whole.{AllFetchWhole}
use Rattle.nc_histories.proofs.OneMoreCall.{Grows, goes_on, created, deleted}
use Rattle.nc_histories.proofs.CallSteps.{call_steps}
use Rattle.nc_histories.proofs.WordSteps.{KnowsSteps, knows_first, knows_more, all_keepers}
use Rattle.nc_histories.proofs.Knowing.{knows_as_much}
use Rattle.nc_histories.proofs.Keeping.{begins, keeper}
use Rattle.nc_histories.proofs.Patched.{patched}
use Rattle.nc_histories.proofs.Reclaimed.{reclaimed}
use Rattle.nc_histories.proofs.Refusals.{refusal_same, refusal_silent}
use Rattle.nc_histories.proofs.Fetching.{fetch_whole_after}
use Rattle.nc_histories.proofs.StaysWhole.{whole_serialized, StaysWhole, whole_append}
use Rattle.nc_histories.proofs.StillRegion.{still_created, still_patched, still_deleted, still_reclaimed}

-- what is kept from one call to the next
pub record Stays (limit seats : ℕ) (before : List Event) (r : Region) : Type 0 where
  pub led : HasLedTo limit seats before r
  pub whole : StaysWhole (first_world limit seats) before
  pub region : IsRegion r.marked r.chunks
  pub keeper : KnowsSteps limit seats before r.keeper

-- a region with the same text and chunks is one
pub same_region : (old new : Region) → new.marked ≡ old.marked → new.chunks ≡ old.chunks → IsRegion old.marked old.chunks
    → IsRegion new.marked new.chunks
same_region old new marked chunks region =
    subst (λ (m : MarkedText). IsRegion m new.chunks) (sym marked) (subst (IsRegion old.marked) (sym chunks) region)

-- what a history keeps stays with the events of one more turn
turn_stays : (limit seats : ℕ) (before events : List Event) (old new : Region) → Stays limit seats before old
    → KnowsSteps limit seats (before ++ events) new.keeper → Grows limit seats before events new → IsRegion new.marked new.chunks
    → Stays limit seats (before ++ events) new
turn_stays limit seats before events old new s knows g region =
    record { led = g.led; whole = whole_append (first_world limit seats) before events s.whole g.whole; region = region; keeper = knows }

-- a call without an event that leaves the region as it was, but for pages
still_same : (limit seats : ℕ) (before : List Event) (old : Region) (turn : Turn) → Stays limit seats before old
    → KnowsSteps limit seats (before ++ turn.events) turn.region.keeper
    → ThreadsMay (world_after (first_world limit seats) before) turn.events → turn.region ≡ record old { made = turn.region.made }
    → writers turn.events ≡ [] → Stays limit seats (before ++ turn.events) turn.region
still_same limit seats before old turn s knows threads same own =
    turn_stays limit seats before turn.events old turn.region s knows
    (goes_on limit seats before turn.events old turn.region s.led same own threads)
    (same_region old turn.region (ap (λ (r : Region). r.marked) same) (ap (λ (r : Region). r.chunks) same) s.region)

-- each call of a history keeps what a history keeps, if its keeper then knows no more than the world's
call_leads : (limit seats : ℕ) (before : List Event) (old : Region) (turn : Turn) → Stays limit seats before old
    → KnowsSteps limit seats (before ++ turn.events) turn.region.keeper
    → ThreadsMay (world_after (first_world limit seats) before) turn.events
    → KnowsNoMore turn.region.keeper.numbers (world_after (first_world limit seats) (before ++ turn.events)).keeper
    → IsCall seats old turn.region (writers turn.events) → Stays limit seats (before ++ turn.events) turn.region
call_leads limit seats before old turn s knows threads found (Creates v valid lim is made tried own) =
    turn_stays limit seats before turn.events old turn.region s knows
    (created limit seats before turn.events old turn.region v made s.led s.region valid lim is tried own threads)
    (still_created old turn.region v s.region valid lim is)
call_leads limit seats before old turn s knows threads found (Patches at bytes news lawful b is made tried own) =
    turn_stays limit seats before turn.events old turn.region s knows
    (patched limit seats before turn.events old turn.region at bytes news made s.led s.region lawful b is tried own threads)
    (still_patched old turn.region at bytes news s.region lawful b is)
call_leads limit seats before old turn s knows threads found (Deletes base stamp is stops made stamped begun own) =
    turn_stays limit seats before turn.events old turn.region s knows
    (deleted limit seats before turn.events old turn.region base stamp stops made s.led s.region is stamped begun own threads)
    (still_deleted old turn.region base stamp s.region is)
call_leads limit seats before old turn s knows threads found (Reclaims count is own) =
    turn_stays limit seats before turn.events old turn.region s knows
    (reclaimed limit seats before turn.events old turn.region count s.led s.region is own threads found)
    (still_reclaimed old turn.region count s.region is)
call_leads limit seats before old turn s knows threads found (UsesKeeper marked chunks own steps range) =
    turn_stays limit seats before turn.events old turn.region s knows
    (keeper limit seats before turn.events old turn.region s.led marked chunks own threads found range)
    (same_region old turn.region marked chunks s.region)
call_leads limit seats before old turn s knows threads found (Refuses is) =
    still_same limit seats before old turn s knows threads (refusal_same old turn.region (writers turn.events) is)
    (refusal_silent old turn.region (writers turn.events) is)
call_leads limit seats before old turn s knows threads found (Keeps same own) = still_same limit seats before old turn s knows threads same own

-- each call of a history keeps what a history keeps (`Stays`)
pub call_stays : (limit seats : ℕ) (before : List Event) (old : Region) (turn : Turn) → Stays limit seats before old
    → ThreadsMay (world_after (first_world limit seats) before) turn.events
    → (¬ All IsNoLook (writers turn.events) → BeginsWith (word_steps (before ++ turn.events)) turn.region.keeper.trail)
    → IsCall seats old turn.region (writers turn.events) → Stays limit seats (before ++ turn.events) turn.region
call_stays limit seats before old turn s threads order call =
    let steps = call_steps seats old turn.region (writers turn.events) s.keeper.bounds call in
    let knows = knows_more limit seats before turn.events old.keeper turn.region.keeper s.keeper steps order in
    call_leads limit seats before old turn s knows threads
    (knows_as_much turn.region.keeper.numbers (world_after (first_world limit seats) (before ++ turn.events)).keeper knows.same) call

-- turns, one after the other, keep what a history keeps (`Stays`)
turns_stay : (limit seats : ℕ) (turns : List Turn) (before : List Event) (r : Region) → Stays limit seats before r
    → AreTurns limit seats before r turns → Stays limit seats (happened before turns) (region_at_end r turns)
turns_stay limit seats [] before r s are = s
turns_stay limit seats (turn ∷ rest) before r s are =
    turns_stay limit seats rest (before ++ turn.events) turn.region
    (call_stays limit seats before r turn s are.0.threads
    (λ some. are.0.order turn.events [] (sym (append-nil turn.events)) some (All-nil IsNoLook)) are.0.call) are.1

-- the keeper with which a history begins has taken its steps
pub first_knows : (limit seats : ℕ) (first : List Event) (r : Region) (turns : List Turn) → IsHistory limit seats first r turns
    → KnowsSteps limit seats first r.keeper
first_knows limit seats first r turns h =
    knows_more limit seats [] first (first_keeper r.keeper.table seats) r.keeper (knows_first limit seats r.keeper)
    (subst (KeeperSteps (first_keeper r.keeper.table seats) r.keeper) (sym (all_keepers (writers first) h.keepers)) h.keeper) h.order

-- a whole history keeps what each turn does (`Stays`)
pub history_stays : (limit seats : ℕ) (first : List Event) (r : Region) (turns : List Turn) → IsHistory limit seats first r turns
    → Stays limit seats (happened first turns) (region_at_end r turns)
history_stays limit seats first r turns h =
    let k = first_knows limit seats first r turns h in
    let g = begins limit seats first r h.lawful h.marked h.chunks h.keepers h.threads
    (knows_as_much r.keeper.numbers (world_after (first_world limit seats) first).keeper k.same) h.in_range in
    turns_stay limit seats turns first r
    (record {
      led = g.led;
      whole = g.whole (whole_serialized (unused_text limit).marks (unused_text limit).bytes);
      region = subst (λ (m : MarkedText). IsRegion m r.chunks) (sym h.marked)
          (subst (IsRegion (unused_text limit)) (sym h.chunks) (region_of_new (unused_text limit) (limit, h.lawful, refl)));
      keeper = k;
    }) h.turns_are

-- what is safe in every view stands in every view
pub all_stand : (w : World) → AllStandSafe w → AllStand w
all_stand w safe =
    All-weaker (λ (seat : Seat). IfSome seat.inside (λ now. (view : List ℕ) → IsViewOf w view → IsSafe view now))
    (λ (seat : Seat). IfSome seat.inside (λ now. (view : List ℕ) → IsViewOf w view → Stands view now))
    (λ seat s. IfSome_then seat.inside
    {P = (λ now. (view : List ℕ) → IsViewOf w view → IsSafe view now)}
    {Q = (λ now. (view : List ℕ) → IsViewOf w view → Stands view now)}
    s (λ now is view v. stands_if_safe view now (is view v))) w.seats safe

-- after every event of a history, threads stand where they may
pub stand_always : (limit seats : ℕ) (first events later : List Event) (r : Region) (turns : List Turn)
    → IsHistory limit seats first r turns → happened first turns ≡ events ++ later
    → AllStand (world_after (first_world limit seats) events)
stand_always limit seats first events later r turns h is =
    let s = history_stays limit seats first r turns h in
    all_stand (world_after (first_world limit seats) events)
    (safe_after limit seats events later h.lawful (subst (AreAllowed (first_world limit seats)) is s.led.allowed))

-- after every event of a history, threads fetch whole instructions
pub whole_always : (limit seats : ℕ) (first events later : List Event) (r : Region) (turns : List Turn)
    → IsHistory limit seats first r turns → happened first turns ≡ events ++ later
    → AllFetchWhole (world_after (first_world limit seats) events)
whole_always limit seats first events later r turns h is =
    let s = history_stays limit seats first r turns h in
    fetch_whole_after limit seats events later h.lawful (subst (AreAllowed (first_world limit seats)) is s.led.allowed)
    (subst (StaysWhole (first_world limit seats)) is s.whole)

-- no thread stands in a span when it is freed in a history
pub none_in_freed : (limit seats : ℕ) (first events later : List Event) (r : Region) (turns : List Turn) (span : RetiredSpan)
    → IsHistory limit seats first r turns → happened first turns ≡ events ++ Frees span ∷ later
    → NoneIsWithin (world_after (first_world limit seats) events) span
none_in_freed limit seats first events later r turns span h is =
    let s = history_stays limit seats first r turns h in
    none_is_within_freed limit seats events later span h.lawful (subst (AreAllowed (first_world limit seats)) is s.led.allowed)

-- the world after a history stands for the region at its end
pub text_at_end : (limit seats : ℕ) (first : List Event) (r : Region) (turns : List Turn) → IsHistory limit seats first r turns
    → StandsFor (world_after (first_world limit seats) (happened first turns)) (region_at_end r turns)
text_at_end limit seats first r turns h = (history_stays limit seats first r turns h).led.stands

-- the text of the region at the end of a history is confined
pub confined_at_end : (limit seats : ℕ) (first : List Event) (r : Region) (turns : List Turn) → IsHistory limit seats first r turns
    → IsConfined (region_at_end r turns).marked.bytes
confined_at_end limit seats first r turns h =
    let s = history_stays limit seats first r turns h in
    confined_if_closed (region_at_end r turns).marked.bytes (region_at_end r turns).marked.marks s.region.whole.closed
