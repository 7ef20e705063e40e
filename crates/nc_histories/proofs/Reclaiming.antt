-- The acts of a reclaiming are allowed events.
use Rattle.std.proofs.Common.{◌≡◌, ◌≢◌, ℕ, ◌+◌, ◌<◌, ◌≤◌, ◌==◌, ◌&&◌, not, Bool, true, false, cond, List, [], ◌∷◌, ◌++◌, length, get_or}
use Rattle.std.proofs.Common.{zero, suc, filter, inl, inr, arith, refl, ◌∙◌, sym, ap, subst, append_assoc, ne_eqb, eq-eqb}
use Rattle.std.specs.Prelude.{⊤, Contains}
use Rattle.std.proofs.lemmas.Bool.{false≢true}
use Rattle.std.proofs.lemmas.Bool.Decides.{nat_tests, eqb_tells}
use Rattle.std.proofs.lemmas.List.Elements.{filter_passes, All-filter, All-contains, All-contains_itself, Contains-append_right}
use Rattle.std.proofs.lemmas.List.Elements.{Contains-append_left, Contains-push}
use Rattle.nc_text.specs.Places.{limit_of}
use Rattle.nc_text.specs.MarkedText.{MarkedText}
use Rattle.nc_gens.specs.declared.view.KeeperNumbers.{KeeperNumbers}
use Rattle.nc_gens.specs.Rule.{last_generation}
use Rattle.nc_gens.specs.Seen.{least_number}
use Rattle.nc_list.specs.declared.chunk.Chunk.{Chunk}
use Rattle.nc_list.specs.declared.chunk.ChunkState.{ChunkState}
use Rattle.nc_list.specs.declared.chunk.ChunkState.TheVariants.{Live, Retired}
use Rattle.nc_region.specs.schedules.Spans.{RetiredSpan}
use Rattle.nc_region.specs.schedules.World.{World, Seat, is_same_span}
use Rattle.nc_region.specs.schedules.Events.{Event, Steps, Enters, Exits, Takes, Sees, Stores, Leaves, Puts, Serializes, Marks, Bumps, Retires, Frees}
use Rattle.nc_region.specs.schedules.Events.{Looks}
use Rattle.nc_region.specs.schedules.Events.{IsAllowed, after, world_after}
use Rattle.nc_region.proofs.Offered.{Keeps, keeps_event}
use Rattle.nc_acts.specs.Chunks.{HasGoodSpan}
use Rattle.nc_region.specs.Deletion.{is_due, freed, kept, unmarked, unmarkings}
use Rattle.nc_base.specs.Each.{Each}
use Rattle.nc_region.specs.Quiet.{with_retired, retired_spans}
use Rattle.nc_region.specs.Region.{IsLive, IsAscending, IsRegion}
use Rattle.nc_base.proofs.Offered.{each_map, each_both, each_contains, each_middle}
use Rattle.nc_region.proofs.Offered.{region_freed, same_as_itself}
use Rattle.nc_list.proofs.Offered.{ascending_above}
use Rattle.nc_histories.specs.Interleaving.{writers, ThreadsMay}
use Rattle.nc_histories.specs.Calls.{KnowsNoMore, span_from}
use Rattle.nc_histories.proofs.Entries.{events_of}
use Rattle.nc_histories.proofs.Looking.{has_passed}
use Rattle.nc_histories.proofs.RetiredSpans.{AreSameSpans, retired_append, retired_head, into_middle, out_of_middle}
use Rattle.nc_histories.proofs.RetiredSpans.{the_middle, retired_each}
use Rattle.nc_histories.proofs.Interleaved.{Interleaved, seated, writer_more, thread_more}

-- ---- in a world

-- each of the events frees a span that is there then, with a stamp of at most this number
abbrev pub FreesMay : List RetiredSpan → ℕ → List Event → Type 0
FreesMay spans least [] = ⊤
FreesMay spans least (Frees span ∷ events) =
    Contains spans span × (span.stamp ≤ least) × FreesMay (filter (λ other. not (is_same_span span other)) spans) least events
FreesMay spans least (event ∷ events) = ⊥

-- spans are freed with threads in between
pub frees_interleaved : (events : List Event) (w : World) (seats : List Seat) (known : KeeperNumbers) → Keeps (seated w seats)
    → w.keeper.generation ≤ last_generation → KnowsNoMore known w.keeper → FreesMay w.retired (least_number known) (writers events)
    → ThreadsMay (seated w seats) events → Interleaved w seats events
frees_interleaved [] w seats known keeps range knows may threads =
    record { allowed = tt; whole = λ whole. whole; seats_after = seats; after_is = refl }
frees_interleaved (Steps k next ∷ events) w seats known keeps range knows may threads =
    thread_more w seats _ (Steps k next) events (threads.0 refl) refl refl
    (frees_interleaved events w _ known (keeps_event (seated w seats) (Steps k next) keeps (threads.0 refl)) range knows may threads.1)
frees_interleaved (Enters k at ∷ events) w seats known keeps range knows may threads =
    thread_more w seats _ (Enters k at) events (threads.0 refl) refl refl
    (frees_interleaved events w _ known (keeps_event (seated w seats) (Enters k at) keeps (threads.0 refl)) range knows may threads.1)
frees_interleaved (Exits k ∷ events) w seats known keeps range knows may threads =
    thread_more w seats _ (Exits k) events (threads.0 refl) refl refl
    (frees_interleaved events w _ known (keeps_event (seated w seats) (Exits k) keeps (threads.0 refl)) range knows may threads.1)
frees_interleaved (Takes k ∷ events) w seats known keeps range knows may threads =
    thread_more w seats _ (Takes k) events (threads.0 refl) refl refl
    (frees_interleaved events w _ known (keeps_event (seated w seats) (Takes k) keeps (threads.0 refl)) range knows may threads.1)
frees_interleaved (Sees k ∷ events) w seats known keeps range knows may threads =
    thread_more w seats _ (Sees k) events (threads.0 refl) refl refl
    (frees_interleaved events w _ known (keeps_event (seated w seats) (Sees k) keeps (threads.0 refl)) range knows may threads.1)
frees_interleaved (Stores k ∷ events) w seats known keeps range knows may threads =
    thread_more w seats _ (Stores k) events (threads.0 refl) refl refl
    (frees_interleaved events w _ known (keeps_event (seated w seats) (Stores k) keeps (threads.0 refl)) range knows may threads.1)
frees_interleaved (Leaves k ∷ events) w seats known keeps range knows may threads =
    thread_more w seats _ (Leaves k) events (threads.0 refl) refl refl
    (frees_interleaved events w _ known (keeps_event (seated w seats) (Leaves k) keeps (threads.0 refl)) range knows may threads.1)
frees_interleaved (Puts at byte ∷ events) w seats known keeps range knows may threads = absurd may
frees_interleaved (Serializes ∷ events) w seats known keeps range knows may threads = absurd may
frees_interleaved (Marks at marks ∷ events) w seats known keeps range knows may threads = absurd may
frees_interleaved (Bumps ∷ events) w seats known keeps range knows may threads = absurd may
frees_interleaved (Retires base len ∷ events) w seats known keeps range knows may threads = absurd may
frees_interleaved (Looks k ∷ events) w seats known keeps range knows may threads = absurd may
frees_interleaved (Frees span ∷ events) w seats known keeps range knows may threads =
    let allowed : IsAllowed (seated w seats) (Frees span) =
    (may.0, has_passed (seated w seats) known span.stamp keeps range knows may.1) in
    writer_more w seats (Frees span) events refl allowed refl refl
    (frees_interleaved events (after w (Frees span)) seats known
    (keeps_event (seated w seats) (Frees span) keeps allowed) range knows may.2 threads.1)

-- ---- members of a filtered list

-- a member of a filtered list is a member of the list, and passes the test
filter_from : {X : Type 0} (p : X → Bool) (xs : List X) (x : X) → Contains (filter p xs) x → Contains xs x × (p x ≡ true)
filter_from p xs x has = (
  All-contains (Contains xs) (filter p xs) x (All-filter p (Contains xs) xs (All-contains_itself xs)) has,
  All-contains
      (λ y. p y ≡ true) (filter p xs) x (filter_passes p xs) has,
)

-- a filtered list contains the first member of the list if it passes the test
filter_head : {X : Type 0} (p : X → Bool) (y x : X) (rest : List X) (b : Bool) → p y ≡ b → y ≡ x → p x ≡ true
    → Contains (cond b (y ∷ rest) rest) x
filter_head p y x rest true e same is = subst (Contains (y ∷ rest)) same (Contains-append_left (y ∷ []) rest y (Contains-push [] y))
filter_head p y x rest false e same is = absurd (false≢true (sym e ∙ (ap p same ∙ is)))

-- a filtered list contains what the filtered rest of the list contains
filter_later : {X : Type 0} (y x : X) (rest : List X) (b : Bool) → Contains rest x → Contains (cond b (y ∷ rest) rest) x
filter_later y x rest true h = Contains-append_right (y ∷ []) rest x h
filter_later y x rest false h = h

-- a filtered list contains a member of the list that passes the test, by the member's index
filter_at : {X : Type 0} (p : X → Bool) (xs : List X) (x : X) (k : ℕ) → k < length xs → get_or xs k x ≡ x → p x ≡ true
    → Contains (filter p xs) x
filter_at p [] x k lt e is = absurd (omega arith)
filter_at p (y ∷ ys) x zero lt e is = filter_head p y x (filter p ys) (p y) refl e is
filter_at p (y ∷ ys) x (suc k) lt e is = filter_later y x (filter p ys) (p y) (filter_at p ys x k (omega (arith, lt)) e is)

-- a filtered list contains each member of the list that passes the test
filter_to : {X : Type 0} (p : X → Bool) (xs : List X) (x : X) → Contains xs x → p x ≡ true → Contains (filter p xs) x
filter_to p xs x has is = filter_at p xs x has.0 has.1 has.2 is

-- ---- spans by their bases

-- spans that the test finds to be the same have the same base
same_base : (a b : RetiredSpan) → is_same_span a b ≡ true → a.base ≡ b.base
same_base a b e =
    elim (eqb_tells a.base b.base) [
      | inl same ↦ same.1
      | inr other ↦ absurd
          (false≢true (sym (ap (λ (x : Bool). (x && (a.length == b.length)) && (a.stamp == b.stamp)) other.0) ∙ e))
    ]

-- retired spans with different bases aren't found to be the same
other_span : (a b : RetiredSpan) → a.base ≢ b.base → is_same_span a b ≡ false
other_span a b ne = go (is_same_span a b) refl
  where
    go : (t : Bool) → is_same_span a b ≡ t → is_same_span a b ≡ false
    go true e = absurd (ne (same_base a b e))
    go false e = e

-- ---- the chunks that are due

-- a chunk that isn't empty lies beside others
abbrev IsClear : ℕ → RetiredSpan → Type 0
IsClear base span = base ≢ span.base

-- in an ascending list each retired chunk but a given one has another base
others_clear : (from : ℕ) (before after : List Chunk) (c : Chunk) (limit : ℕ) → IsAscending from (before ++ c ∷ after)
    → Each (λ (d : Chunk). HasGoodSpan d.base limit d.length) (before ++ c ∷ after)
    → Each (λ (d : Chunk). (stamp : ℕ) → d.state ≡ Retired stamp → IsClear c.base
    (record { base = d.base; length = d.length; stamp = stamp })) (before ++ after)
others_clear from [] after c limit ascending placed =
    each_map (λ (d : Chunk). c.base + c.length ≤ d.base)
    (λ (d : Chunk). (stamp : ℕ) → d.state ≡ Retired stamp → IsClear c.base (record { base = d.base; length = d.length; stamp = stamp }))
    (λ d h stamp is e. omega (arith, h, e, placed.0.some)) after (ascending_above (c.base + c.length) after ascending.1)
others_clear from (b ∷ before) after c limit ascending placed = (
  λ stamp is e. omega (
    arith,
    each_middle (λ (d : Chunk). b.base + b.length ≤ d.base) before after c
        (ascending_above (b.base + b.length) (before ++ c ∷ after) ascending.1),
    e,
    placed.0.some,
  ),
  others_clear (b.base + b.length) before after c limit ascending.1 placed.1,
)

-- a span freed leaves those of the other chunks
same_spans_freed : (spans : List RetiredSpan) (before after : List Chunk) (c : Chunk) (stamp : ℕ) → c.state ≡ Retired stamp
    → Each (λ (span : RetiredSpan). IsClear c.base span) (retired_spans (before ++ after))
    → AreSameSpans spans (before ++ c ∷ after)
    → AreSameSpans (filter (λ other. not (is_same_span (record { base = c.base; length = c.length; stamp = stamp }) other)) spans)
    (before ++ after)
same_spans_freed spans before after c stamp is clear same = λ span.
    let old_is : retired_spans (before ++ c ∷ after) ≡ retired_spans before ++
    (record { base = c.base; length = c.length; stamp = stamp } ∷ retired_spans after) =
    retired_append before (c ∷ after)
    ∙ ap (λ (z : List RetiredSpan). retired_spans before ++ z) (retired_head c c.state stamp (retired_spans after) is) in
    let new_is : retired_spans (before ++ after) ≡ retired_spans before ++ retired_spans after = retired_append before after in (
      λ has.
          let h = filter_from
          (λ (other : RetiredSpan). not (is_same_span (record { base = c.base; length = c.length; stamp = stamp }) other)) spans span has in
          subst (λ (z : List RetiredSpan). Contains z span) (sym new_is)
          (elim (out_of_middle (retired_spans before) (retired_spans after)
          (record { base = c.base; length = c.length; stamp = stamp }) span
          (subst (λ (z : List RetiredSpan). Contains z span) old_is ((same span).0 h.0))) [
            | inl it ↦ absurd
                (false≢true (sym (ap not (same_as_itself (record { base = c.base; length = c.length; stamp = stamp })))
                ∙ subst (λ (z : RetiredSpan). not (is_same_span (record { base = c.base; length = c.length; stamp = stamp }) z) ≡ true)
                (sym it) h.1))
            | inr other ↦ other
          ]),
      λ has.
          filter_to (λ (other : RetiredSpan). not (is_same_span (record { base = c.base; length = c.length; stamp = stamp }) other)) spans span
          ((same span).1
          (subst (λ (z : List RetiredSpan). Contains z span) (sym old_is)
          (into_middle (retired_spans before) (retired_spans after) (record { base = c.base; length = c.length; stamp = stamp }) span
          (subst (λ (z : List RetiredSpan). Contains z span) new_is has))))
          (ap not (other_span (record { base = c.base; length = c.length; stamp = stamp }) span
          (each_contains (λ (s : RetiredSpan). IsClear c.base s) (retired_spans (before ++ after)) span clear has))),
    )

-- the events that unmark these chunks
abbrev pub frees : List RetiredSpan → List Chunk → List Event
frees spans chunks = events_of (record { marks = []; base = 0; len = 0; seats = 0; spans = spans }) (unmarkings chunks)

-- the span that a chunk's base finds
abbrev pub Finds : List RetiredSpan → Chunk → Type 0
Finds all c = (stamp : ℕ) → c.state ≡ Retired stamp → span_from all c.base ≡ record { base = c.base; length = c.length; stamp = stamp }

-- a chunk with another base in front doesn't hide the span that a base finds
found_behind : (x c : Chunk) (s : ChunkState) (spans : List RetiredSpan) (to : RetiredSpan) → x.base ≢ c.base → span_from spans c.base ≡ to
    → span_from (with_retired x s spans) c.base ≡ to
found_behind x c Live spans to ne e = e
found_behind x c (Retired stamp) spans to ne e =
    ap (λ (b : Bool). cond b (record { base = x.base; length = x.length; stamp = stamp }) (span_from spans c.base))
    (ne_eqb x.base c.base ne) ∙ e

-- the span of a retired chunk in front is found by the chunk's base
found_first : (c : Chunk) (s : ChunkState) (spans : List RetiredSpan) (stamp : ℕ) → s ≡ Retired stamp
    → span_from (with_retired c s spans) c.base ≡ record { base = c.base; length = c.length; stamp = stamp }
found_first c s spans stamp is =
    ap (λ (z : ChunkState). span_from (with_retired c z spans) c.base) is
    ∙ ap (λ (b : Bool). cond b (record { base = c.base; length = c.length; stamp = stamp }) (span_from spans c.base))
    (eq-eqb c.base c.base refl)

-- each chunk of an ascending list finds its span
pub finds_all : (from limit : ℕ) (chunks : List Chunk) → IsAscending from chunks
    → Each (λ (d : Chunk). HasGoodSpan d.base limit d.length) chunks
    → Each (Finds (retired_spans chunks)) chunks
finds_all from limit [] ascending placed = tt
finds_all from limit (x ∷ rest) ascending placed = (
  λ stamp is. found_first x x.state (retired_spans rest) stamp is,
  each_both (λ (d : Chunk). x.base + x.length ≤ d.base) (Finds (retired_spans rest)) (Finds (retired_spans (x ∷ rest)))
      (λ d above finds stamp is. found_behind x d x.state (retired_spans rest)
      (record { base = d.base; length = d.length; stamp = stamp }) (λ e. omega (arith, above, e, placed.0.some)) (finds stamp is))
      rest (ascending_above (x.base + x.length) rest ascending.1) (finds_all (x.base + x.length) limit rest ascending.1 placed.1),
)

-- what is due was retired with a stamp of at most the number
due_is : (least : ℕ) (s : ChunkState) → is_due least s ≡ true → (stamp : ℕ) × (s ≡ Retired stamp) × (stamp ≤ least)
due_is least Live is = absurd (false≢true is)
due_is least (Retired stamp) is = (stamp, refl, grind (arith, nat_tests, is))

-- a retired chunk isn't live
retired_dead : (s : ChunkState) (stamp : ℕ) → s ≡ Retired stamp → IsLive s → ⊥
retired_dead s stamp is live = subst IsLive is live

-- what some frees have done: they were allowed, and which spans, text and keeper are left
pub record FreesDone (v : World) (least : ℕ) (events : List Event) (left : List Chunk) (marked : MarkedText) : Type 0 where
  pub may : FreesMay v.retired least events
  pub spans : AreSameSpans (world_after v events).retired left
  pub marked_is : (world_after v events).marked ≡ marked
  pub keeper_is : (world_after v events).keeper ≡ v.keeper

-- frees go on over one more chunk that is due
free_one : (least : ℕ) (all : List RetiredSpan) (done rest : List Chunk) (c : Chunk) (v : World) → IsRegion v.marked (done ++ c ∷ rest)
    → Finds all c → AreSameSpans v.retired (done ++ c ∷ rest)
    → ((w : World) → IsRegion w.marked (done ++ rest) → AreSameSpans w.retired (done ++ rest)
    → FreesDone w least (frees all (freed least rest)) (done ++ kept least rest) (unmarked w.marked (freed least rest)))
    → (stamp : ℕ) → c.state ≡ Retired stamp → stamp ≤ least
    → FreesDone v least (frees all (c ∷ freed least rest)) (done ++ kept least rest) (unmarked v.marked (c ∷ freed least rest))
free_one least all done rest c v region finds same go stamp is le =
    let sp : RetiredSpan = record { base = c.base; length = c.length; stamp = stamp } in
    let clear = retired_each (λ (s : RetiredSpan). IsClear c.base s) (done ++ rest)
    (others_clear 65536 done rest c (limit_of v.marked.bytes) region.ascending region.placed) in
    let next = same_spans_freed v.retired done rest c stamp is clear same in
    let r = go (after v (Frees (record { base = c.base; length = c.length; stamp = stamp })))
    (region_freed v.marked done rest c region (retired_dead c.state stamp is)) next in
    let has : Contains v.retired (record { base = c.base; length = c.length; stamp = stamp }) =
    (same (record { base = c.base; length = c.length; stamp = stamp })).1
    (subst (λ (z : List RetiredSpan). Contains z (record { base = c.base; length = c.length; stamp = stamp }))
    (sym (retired_append done (c ∷ rest)
    ∙ ap (λ (z : List RetiredSpan). retired_spans done ++ z) (retired_head c c.state stamp (retired_spans rest) is)))
    (the_middle (retired_spans done) (retired_spans rest) (record { base = c.base; length = c.length; stamp = stamp }))) in
    subst (λ (z : RetiredSpan). FreesDone v least (Frees z ∷ frees all (freed least rest)) (done ++ kept least rest)
    (unmarked v.marked (c ∷ freed least rest))) (sym (finds stamp is))
    (record { may = (has, le, r.may); spans = r.spans; marked_is = r.marked_is; keeper_is = r.keeper_is })

-- frees go on over one more chunk, due or not
free_next : (least : ℕ) (all : List RetiredSpan) (done rest : List Chunk) (c : Chunk) (v : World) → IsRegion v.marked (done ++ c ∷ rest)
    → Finds all c → AreSameSpans v.retired (done ++ c ∷ rest)
    → ((before : List Chunk) (w : World) → IsRegion w.marked (before ++ rest) → AreSameSpans w.retired (before ++ rest)
    → FreesDone w least (frees all (freed least rest)) (before ++ kept least rest) (unmarked w.marked (freed least rest)))
    → (b : Bool) → is_due least c.state ≡ b
    → FreesDone v least (frees all (cond b (c ∷ freed least rest) (freed least rest)))
    (done ++ cond (not b) (c ∷ kept least rest) (kept least rest)) (unmarked v.marked (cond b (c ∷ freed least rest) (freed least rest)))
free_next least all done rest c v region finds same go true due =
    let d = due_is least c.state due in
    free_one least all done rest c v region finds same (go done) d.0 d.1 d.2
free_next least all done rest c v region finds same go false due =
    let seam : (ys : List Chunk) → (done ++ c ∷ []) ++ ys ≡ done ++ c ∷ ys = λ ys. append_assoc done (c ∷ []) ys in
    subst (λ (z : List Chunk). FreesDone v least (frees all (freed least rest)) z (unmarked v.marked (freed least rest)))
    (seam (kept least rest))
    (go (done ++ c ∷ []) v (subst (IsRegion v.marked) (sym (seam rest)) region) (subst (AreSameSpans v.retired) (sym (seam rest)) same))

-- frees go on over all the chunks that are left
pub frees_done : (least : ℕ) (all : List RetiredSpan) (rest done : List Chunk) (v : World) → IsRegion v.marked (done ++ rest)
    → Each (Finds all) rest → AreSameSpans v.retired (done ++ rest)
    → FreesDone v least (frees all (freed least rest)) (done ++ kept least rest) (unmarked v.marked (freed least rest))
frees_done least all [] done v region finds same = record { may = tt; spans = same; marked_is = refl; keeper_is = refl }
frees_done least all (c ∷ rest) done v region finds same =
    free_next least all done rest c v region finds.0 same (λ before w r s. frees_done least all rest before w r finds.1 s)
    (is_due least c.state) refl

-- the keeper stays while spans are freed
pub keeper_stays : (events : List Event) (w : World) (spans : List RetiredSpan) (least : ℕ) → FreesMay spans least (writers events)
    → (world_after w events).keeper ≡ w.keeper
keeper_stays [] w spans least may = refl
keeper_stays (Steps k next ∷ events) w spans least may = keeper_stays events (after w (Steps k next)) spans least may
keeper_stays (Enters k at ∷ events) w spans least may = keeper_stays events (after w (Enters k at)) spans least may
keeper_stays (Exits k ∷ events) w spans least may = keeper_stays events (after w (Exits k)) spans least may
keeper_stays (Takes k ∷ events) w spans least may = keeper_stays events (after w (Takes k)) spans least may
keeper_stays (Sees k ∷ events) w spans least may = keeper_stays events (after w (Sees k)) spans least may
keeper_stays (Stores k ∷ events) w spans least may = keeper_stays events (after w (Stores k)) spans least may
keeper_stays (Leaves k ∷ events) w spans least may = keeper_stays events (after w (Leaves k)) spans least may
keeper_stays (Puts at byte ∷ events) w spans least may = absurd may
keeper_stays (Serializes ∷ events) w spans least may = absurd may
keeper_stays (Marks at marks ∷ events) w spans least may = absurd may
keeper_stays (Bumps ∷ events) w spans least may = absurd may
keeper_stays (Retires base len ∷ events) w spans least may = absurd may
keeper_stays (Looks k ∷ events) w spans least may = absurd may
keeper_stays (Frees span ∷ events) w spans least may = keeper_stays events (after w (Frees span)) _ least may.2

-- how many seats a look goes over doesn't matter to what is unmarked
pub frees_same : (seats : ℕ) (spans : List RetiredSpan) (chunks : List Chunk)
    → events_of (record { marks = []; base = 0; len = 0; seats = seats; spans = spans }) (unmarkings chunks) ≡ frees spans chunks
frees_same seats spans [] = refl
frees_same seats spans (c ∷ rest) = ap (λ (z : List Event). Frees (span_from spans c.base) ∷ z) (frees_same seats spans rest)
