-- Schedules that have led to a region, and one call more.
use Rattle.std.proofs.Common.{◌≡◌, ℕ, ◌+◌, ◌-◌, ◌≤◌, Bool, List, [], ◌∷◌, ◌++◌, set, replicate, arith}
use Rattle.std.proofs.Common.{◌∙◌, sym, ap, subst, append-nil}
use Rattle.std.specs.Prelude.{Contains, ◌↔◌}
use Rattle.nc_decode.specs.declared.instruction.Mark.{Mark}
use Rattle.nc_text.specs.Places.{limit_of}
use Rattle.nc_text.specs.MarkedText.{MarkedText, with_span}
use Rattle.nc_gens.specs.declared.view.KeeperNumbers.{KeeperNumbers}
use Rattle.nc_gens.specs.Rule.{generation_raised, last_generation}
use Rattle.nc_gens.specs.Seen.{KeeperState}
use Rattle.nc_vet.specs.Chunk.{MarkedChunk, IsValid}
use Rattle.nc_list.specs.declared.chunk.Chunk.{Chunk}
use Rattle.nc_list.specs.declared.chunk.ChunkState.TheVariants.{Retired}
use Rattle.nc_region.specs.schedules.Spans.{RetiredSpan}
use Rattle.nc_region.specs.schedules.World.{World, Seat, first_world}
use Rattle.nc_region.specs.schedules.Events.{Event, Serializes, Marks, Retires, after, world_after, AreAllowed}
use Rattle.nc_region.proofs.Offered.{Keeps, keeps_reached, allowed_append, after_append}
use Rattle.nc_acts.specs.Acts.{puts_where, is_inside, is_start, is_marked_at, is_unmarked_at}
use Rattle.nc_acts.specs.Chunks.{with_chunk}
use Rattle.nc_region.specs.Quiet.{retired_spans}
use Rattle.nc_region.specs.Region.{Region, IsLive, IsRegion, IsCreated, live_chunk}
use Rattle.nc_region.specs.Deletion.{IsDeleted}
use Rattle.nc_acts.proofs.Offered.{same_code}
use Rattle.nc_region.proofs.Offered.{listed_there}
use Rattle.nc_histories.specs.Interleaving.{writers, ThreadsMay}
use Rattle.nc_histories.specs.Calls.{KnowsNoMore, StandsFor, HasLedTo, Details, create_events, delete_events}
use Rattle.nc_histories.specs.Histories.{AreAttempts}
use Rattle.nc_histories.specs.Views.{ViewsKeep}
use Rattle.nc_histories.proofs.CreationAgain.{create_leads}
use Rattle.nc_histories.proofs.Attempts.{delete_leads}
use Rattle.nc_histories.proofs.Deletion.{stopped}
use Rattle.nc_histories.proofs.Entries.{events_of, create_is, delete_is}
use Rattle.nc_histories.proofs.Knowing.{knows_raised}
use Rattle.nc_histories.proofs.Parting.{Kept}
use Rattle.nc_histories.proofs.Putting.{Leads, Reaches, Views, leads_none}
use Rattle.nc_histories.proofs.RetiredSpans.{retired_insert, same_spans_retired}
use Rattle.nc_histories.proofs.Turning.{puts_keep}
use Rattle.nc_histories.proofs.StaysWhole.{IsWholeIn, StaysWhole}
use Rattle.nc_histories.proofs.Interleaved.{ArePlain, plain_front, plain_again, interleave, seated}

-- puts before plain events are plain with them
pub plain_puts : (d : Details) (chosen : ℕ → Bool) (at : ℕ) (bytes : List ℕ) (more : List Event) → ArePlain more
    → ArePlain (events_of d (puts_where chosen at bytes) ++ more)
plain_puts = puts_keep ArePlain (λ at byte more plain. (tt, plain)) (λ more plain. (tt, plain))

-- the events of a creation are plain
create_plain : (v : MarkedChunk) → ArePlain (create_events v)
create_plain v =
    let d : Details = record { marks = v.marks; base = 0; len = 0; seats = 0; spans = [] } in
    let starts = events_of d (puts_where is_start v.base v.code) in
    subst ArePlain (sym (create_is v))
    (plain_puts d is_inside v.base v.code (Serializes ∷ Marks v.base v.marks ∷ starts)
    (tt, (tt, subst ArePlain (append-nil starts) (plain_puts d is_start v.base v.code [] tt))))

-- the events of a deletion are plain
delete_plain : (marks : List Mark) (base len : ℕ) → ArePlain (delete_events marks base len)
delete_plain marks base len =
    let d : Details = record { marks = []; base = base; len = len; seats = 0; spans = [] } in
    subst ArePlain (sym (delete_is marks base len))
    (plain_puts d (is_marked_at marks) base (replicate len 244)
    (Serializes ∷ (events_of (record { marks = []; base = base; len = len; seats = 0; spans = [] })
    (puts_where (is_unmarked_at marks) base (replicate len 244)) ++ Retires base len ∷ []))
    (tt, plain_puts d (is_unmarked_at marks) base (replicate len 244) (Retires base len ∷ []) (tt, tt)))

-- where a call's views keep what they have to, those of the world do, whoever sits in it
pub views_kept : (w : World) (chunks : List Chunk) (seats : List Seat) → Views (Kept w.marked.marks chunks) w.marked.bytes w.earlier
    → ViewsKeep (seated w seats) chunks
views_kept w chunks seats views =
    record { parted = λ view is. (views view is).parted; stopped = λ view is. (views view is).stopped }

-- where the world's views keep what they have to, those of a call do
pub views_keep : (w : World) (chunks : List Chunk) → ViewsKeep w chunks → Views (Kept w.marked.marks chunks) w.marked.bytes w.earlier
views_keep w chunks keep = λ view is. record { parted = keep.parted view is; stopped = keep.stopped view is }

-- a world stands for the same region whoever sits in it
stands_seated : (w : World) (seats : List Seat) (r : Region) → StandsFor w r → StandsFor (seated w seats) r
stands_seated w seats r s = record { marked = s.marked; keeper = s.keeper; spans = s.spans }

-- Further events have led to the region. If what views have at marked places stood there whole before them, it did after each.
pub record Grows (limit seats : ℕ) (before events : List Event) (new : Region) : Type 0 where
  pub led : HasLedTo limit seats (before ++ events) new
  pub whole : IsWholeIn (world_after (first_world limit seats) before) → StaysWhole (world_after (first_world limit seats) before) events

-- events that are allowed, and lead to a world that stands for another region
pub grown : (limit seats : ℕ) (before events : List Event) (old new : Region) (v : World) → HasLedTo limit seats before old
    → Leads (world_after (first_world limit seats) before) events v → StandsFor v new → ViewsKeep v new.chunks
    → new.keeper.numbers.generation ≤ last_generation → Grows limit seats before events new
grown limit seats before events old new v h l stands views range =
    let same = after_append (first_world limit seats) before events ∙ l.after_is in
    record {
      led = record {
        lawful = h.lawful;
        allowed = allowed_append (first_world limit seats) before events h.allowed l.allowed;
        stands = subst (λ (w : World). StandsFor w new) (sym same) stands;
        views = subst (λ (w : World). ViewsKeep w new.chunks) (sym same) views;
        in_range = range;
      };
      whole = l.whole;
    }

-- a call's own events with threads between them lead to a world that stands for the new region
pub grown_beside : (limit seats : ℕ) (before events own : List Event) (old new : Region) (v : World) → HasLedTo limit seats before old
    → writers events ≡ own → ArePlain own
    → Reaches (world_after (first_world limit seats) before) own v (Kept v.marked.marks new.chunks)
    → ThreadsMay (world_after (first_world limit seats) before) events → StandsFor v new
    → new.keeper.numbers.generation ≤ last_generation → Grows limit seats before events new
grown_beside limit seats before events own old new v h is plain r threads stands range =
    let w = world_after (first_world limit seats) before in
    let l = r.leads in
    let interleaved = interleave w w.seats events (subst ArePlain (sym is) plain)
    (subst (λ (z : List Event). AreAllowed (world_after (first_world limit seats) before) z) (sym is) l.allowed) threads in
    let whole : IsWholeIn (world_after (first_world limit seats) before)
    → StaysWhole (world_after (first_world limit seats) before) events =
    λ first. interleaved.whole
    (subst (λ (z : List Event). StaysWhole (world_after (first_world limit seats) before) z) (sym is) (l.whole first)) in
    let after_is : world_after (world_after (first_world limit seats) before) events
    ≡ seated (record v { earlier = r.earlier }) interleaved.seats_after =
    interleaved.after_is
    ∙ (ap (λ (z : List Event). seated (world_after (world_after (first_world limit seats) before) z) interleaved.seats_after) is
    ∙ ap (λ (x : World). seated x interleaved.seats_after) l.after_is) in
    grown limit seats before events old new (seated (record v { earlier = r.earlier }) interleaved.seats_after) h
    (record { allowed = interleaved.allowed; whole = whole; after_is = after_is })
    (record { marked = stands.marked; keeper = stands.keeper; spans = stands.spans })
    (views_kept (record v { earlier = r.earlier }) new.chunks interleaved.seats_after r.views) range

-- what every world that has led to a region keeps
pub kept_there : (limit seats : ℕ) (before : List Event) (r : Region) → HasLedTo limit seats before r
    → Keeps (world_after (first_world limit seats) before)
kept_there limit seats before r h = keeps_reached limit seats before h.lawful h.allowed

-- threads by themselves, and a call that was refused
pub goes_on : (limit seats : ℕ) (before events : List Event) (old new : Region) → HasLedTo limit seats before old
    → new ≡ record old { made = new.made } → writers events ≡ []
    → ThreadsMay (world_after (first_world limit seats) before) events → Grows limit seats before events new
goes_on limit seats before events old new h others is threads =
    let w = world_after (first_world limit seats) before in
    let chunks : old.chunks ≡ new.chunks = sym (ap (λ (r : Region). r.chunks) others) in
    grown_beside limit seats before events [] old new w h is tt
    (record {
      earlier = w.earlier;
      leads = leads_none w;
      views = views_keep w new.chunks (subst (ViewsKeep (world_after (first_world limit seats) before)) chunks h.views);
    }) threads
    (subst (StandsFor w) (sym others)
    (record { marked = h.stands.marked; keeper = h.stands.keeper; spans = h.stands.spans }))
    (subst (λ (r : Region). r.keeper.numbers.generation ≤ last_generation) (sym others) h.in_range)

-- the events of a creation, after attempts at it, lead to a world that stands for the new region
pub created : (limit seats : ℕ) (before events : List Event) (old new : Region) (v : MarkedChunk) (made : List Event)
    → HasLedTo limit seats before old → IsRegion old.marked old.chunks → IsValid v → v.limit ≡ limit_of old.marked.bytes
    → IsCreated old new v → AreAttempts (create_events v) made → writers events ≡ made ++ create_events v
    → ThreadsMay (world_after (first_world limit seats) before) events → Grows limit seats before events new
created limit seats before events old new v made h region valid lim is attempts own threads =
    let w = world_after (first_world limit seats) before in
    let k = is.chunks.0 in
    let here = h.stands.marked in
    let keeper : new.keeper ≡ old.keeper = ap (λ (r : Region). r.keeper) is.others in
    let l = create_leads w old.chunks v k made (kept_there limit seats before old h) h.views
    (subst (λ (m : MarkedText). IsRegion m old.chunks) (sym here) region)
    (λ span has. (h.stands.spans span).0 has) valid
    (lim ∙ ap (λ (m : MarkedText). limit_of m.bytes) (sym here)) is.chunks.1 attempts in
    let reached = subst (λ (z : List Chunk). Reaches (world_after (first_world limit seats) before) (made ++ create_events v)
    (record (world_after (first_world limit seats) before) {
      marked = with_chunk (world_after (first_world limit seats) before).marked v.base v.code v.marks;
    }) (Kept (with_chunk (world_after (first_world limit seats) before).marked v.base v.code v.marks).marks z)) (sym is.chunks.2) l in
    let spans : retired_spans new.chunks ≡ retired_spans old.chunks =
    ap retired_spans is.chunks.2 ∙ retired_insert old.chunks k (live_chunk v) tt in
    grown_beside limit seats before events (made ++ create_events v) old new _ h own
    (plain_again (create_events v) made (create_events v) attempts (create_plain v) (create_plain v)) reached threads
    (record {
      marked =
          ap (λ (m : MarkedText). let x : MarkedText = record {
            bytes = with_span m.bytes
                (v.base - 65536) v.code;
            marks = with_span m.marks (v.base - 65536) v.marks;
          } in x) here
          ∙ sym (same_code new.marked
          (record {
            bytes = with_span old.marked.bytes (v.base - 65536) v.code;
            marks = with_span old.marked.marks
                (v.base - 65536) v.marks;
          }) is.bytes is.marks);
      keeper = subst (λ (x : KeeperState). KnowsNoMore x.numbers w.keeper) (sym keeper) h.stands.keeper;
      spans = λ span. subst (λ (z : List RetiredSpan). Contains w.retired span ↔ Contains z span) (sym spans) (h.stands.spans span);
    })
    (subst (λ (x : KeeperState). x.numbers.generation ≤ last_generation) (sym keeper) h.in_range)

-- the events of a deletion, after unfinished attempts at it, lead to the new region
pub deleted : (limit seats : ℕ) (before events : List Event) (old new : Region) (base stamp : ℕ) (stops made : List Event)
    → HasLedTo limit seats before old → IsRegion old.marked old.chunks → (is : IsDeleted old new base stamp)
    → stops ++ Retires base is.chunk.length ∷ [] ≡ delete_events old.marked.marks base is.chunk.length → AreAttempts stops made
    → writers events ≡ made ++ delete_events old.marked.marks base is.chunk.length
    → ThreadsMay (world_after (first_world limit seats) before) events → Grows limit seats before events new
deleted limit seats before events old new base stamp stops made h region is stamped attempts own threads =
    let w = world_after (first_world limit seats) before in
    let c = is.chunk in
    let here = h.stands.marked in
    let there = listed_there old.chunks is.index is.chunk is.listed in
    let live : IsLive is.chunk.state = subst IsLive (sym is.live) tt in
    let ends : stops ++ Retires is.chunk.base is.chunk.length ∷ [] ≡ delete_events w.marked.marks is.chunk.base is.chunk.length =
    subst (λ (m : MarkedText). stops ++ Retires is.chunk.base is.chunk.length ∷ [] ≡ delete_events m.marks is.chunk.base is.chunk.length)
    (sym here)
    (subst (λ (b : ℕ). stops ++ Retires b is.chunk.length ∷ [] ≡ delete_events old.marked.marks b is.chunk.length) (sym is.base_is)
    stamped) in
    let plain : ArePlain (delete_events w.marked.marks is.chunk.base is.chunk.length) =
    delete_plain w.marked.marks is.chunk.base is.chunk.length in
    let l = delete_leads w old.chunks is.index is.chunk stops made (kept_there limit seats before old h) h.views
    (subst (λ (m : MarkedText). IsRegion m old.chunks) (sym here) region)
    (λ span has. (h.stands.spans span).0 has) there.0 there.1 live ends attempts in
    let own_is : writers events ≡ made ++ delete_events w.marked.marks is.chunk.base is.chunk.length =
    own ∙ (ap (λ (b : ℕ). made ++ delete_events old.marked.marks b is.chunk.length) (sym is.base_is)
    ∙ ap (λ (m : MarkedText). made ++ delete_events m.marks is.chunk.base is.chunk.length) (sym here)) in
    let stamp_is : stamp ≡ w.keeper.generation + 1 = is.stamp_is ∙ ap (λ (n : ℕ). n + 1) h.stands.keeper.generation in
    let same = same_spans_retired w.retired old.chunks is.index is.chunk (w.keeper.generation + 1) there.0 there.1 live h.stands.spans in
    let list : new.chunks ≡ set old.chunks is.index (record is.chunk { state = Retired (w.keeper.generation + 1) }) =
    is.chunks ∙ ap (λ (n : ℕ). set old.chunks is.index (record is.chunk { state = Retired n })) stamp_is in
    let keeper : new.keeper.numbers ≡ generation_raised old.keeper.numbers = ap (λ (x : KeeperState). x.numbers) is.keeper.others in
    grown_beside limit seats before events (made ++ delete_events w.marked.marks is.chunk.base is.chunk.length) old new _ h own_is
    (plain_again stops made (delete_events w.marked.marks is.chunk.base is.chunk.length) attempts
    (plain_front stops (Retires is.chunk.base is.chunk.length ∷ []) (subst ArePlain (sym ends) plain)) plain)
    (subst (λ (z : List Chunk). Reaches (world_after (first_world limit seats) before)
    (made ++ delete_events (world_after (first_world limit seats) before).marked.marks is.chunk.base is.chunk.length)
    (after (record (world_after (first_world limit seats) before) {
      marked = stopped (world_after (first_world limit seats) before) is.chunk;
    }) (Retires is.chunk.base is.chunk.length)) (Kept (world_after (first_world limit seats) before).marked.marks z)) (sym list) l) threads
    (record {
      marked =
          ap (λ (m : MarkedText). let x : MarkedText = record {
            bytes = with_span m.bytes (is.chunk.base - 65536)
                (replicate is.chunk.length 244);
            marks = m.marks;
          } in x) here
          ∙ sym (same_code new.marked
          (record { bytes = with_span old.marked.bytes (is.chunk.base - 65536) (replicate is.chunk.length 244); marks = old.marked.marks })
          (is.bytes ∙ ap (λ (b : ℕ). with_span old.marked.bytes (b - 65536) (replicate is.chunk.length 244)) (sym is.base_is))
          (ap (λ (r : Region). r.marked.marks) is.others));
      keeper = subst (λ (n : KeeperNumbers). KnowsNoMore n (generation_raised w.keeper)) (sym keeper)
          (knows_raised old.keeper.numbers w.keeper h.stands.keeper);
      spans = λ span. subst
          (λ (z : List Chunk). Contains
          (record { base = is.chunk.base; length = is.chunk.length; stamp = w.keeper.generation + 1 } ∷ w.retired) span ↔ Contains
          (retired_spans z) span) (sym list) (same span);
    })
    (rw keeper (omega (arith, is.room)))
