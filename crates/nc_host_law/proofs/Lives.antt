-- Hosts that go through a chunk's life, up to the moment before its span is freed.
use Rattle.std.proofs.Common.{◌≡◌, ℕ, ◌+◌, ◌*◌, Bool, Some, List, [], ◌∷◌, ◌++◌, length, refl, ◌∙◌, sym, ap, subst}
use Rattle.std.proofs.lemmas.List.{append-nil}
use Rattle.nc_text.specs.MarkedText.{MarkedText, unused_text}
use Rattle.nc_text.specs.Ready.{unmade_pages}
use Rattle.nc_vet.specs.Chunk.{MarkedChunk, IsValid}
use Rattle.nc_list.specs.declared.chunk.Chunk.{Chunk}
use Rattle.nc_acts.specs.declared.acts.Entry.{Entry}
use Rattle.nc_region.specs.schedules.Spans.{RetiredSpan}
use Rattle.nc_region.specs.schedules.World.{World, first_world, seat_at}
use Rattle.nc_region.specs.schedules.Events.{Exits, Takes, Stores, Frees, Looks, world_after}
use Rattle.nc_region.proofs.Offered.{after_append}
use Rattle.nc_region.specs.Region.{Region, IsCreated}
use Rattle.nc_region.specs.Deletion.{IsDeleted}
use Rattle.nc_histories.specs.Interleaving.{writers}
use Rattle.nc_histories.specs.Histories.{Turn, IsTurn}
use Rattle.nc_histories.specs.Example.{first_region, start_of, ThreadIsIn, IsLife}
use Rattle.nc_histories.specs.Steps.{word_steps}
use Rattle.nc_histories.proofs.Offered.{lives, steps_append}
use Rattle.nc_host_handles.specs.RegionHandle.{RegionHandleState, IsFirst}
use Rattle.nc_host_law.specs.Hosts.{Host, First}
use Rattle.nc_host_law.specs.Turns.{new_host, GoesOn}
use Rattle.nc_host_law.proofs.Turning.{reached_by, turns}

-- the region of a new handle is the first one of a chunk's life
first_is : (bundles : ℕ) (first : RegionHandleState) (v : MarkedChunk) → v.limit ≡ 65536 + 32 * bundles → IsFirst bundles 1 first
    → first.region ≡ first_region v.limit first.region.keeper
first_is bundles first v at is =
    let r : Region = first.region in
    ap (λ (m : MarkedText). record { marked = m; made = r.made; chunks = r.chunks; keeper = r.keeper; logged = r.logged })
    (is.marked ∙ ap unused_text (sym at))
    ∙ (ap (λ (m : List Bool). record { marked = unused_text v.limit; made = m; chunks = r.chunks; keeper = r.keeper; logged = r.logged })
    (is.made ∙ ap unmade_pages (sym at))
    ∙ (ap (λ (c : List Chunk). record {
      marked = unused_text v.limit;
      made = unmade_pages v.limit;
      chunks = c;
      keeper = r.keeper;
      logged = r.logged;
    }) is.chunks ∙ ap (λ (e : List Entry). record {
      marked = unused_text v.limit;
      made = unmade_pages v.limit;
      chunks = [];
      keeper = r.keeper;
      logged = e;
    }) is.logged))

-- the span of the chunk, with the stamp of the first deletion
abbrev span_of : MarkedChunk → RetiredSpan
span_of v = record { base = v.base; length = length v.code; stamp = 1 }

-- a host creates the chunk, deletes it while its thread is at the chunk's base, and goes on until it is about to free the span
abbrev Lives : ℕ → RegionHandleState → MarkedChunk → Type 0
Lives bundles first v =
    (created deleted last : Host) × GoesOn bundles 1 (new_host bundles 1 first) created
    × IsCreated first.region created.handle.region v × GoesOn bundles 1 created deleted
    × IsDeleted created.handle.region deleted.handle.region v.base 1 × ((seat_at deleted.world 0).inside ≡ Some (start_of v))
    × GoesOn bundles 1 deleted last × (last.pending ≡ Frees (span_of v) ∷ [])

-- a host goes through a life's turns, and stands before the last event
goes_through : (bundles : ℕ) (first : RegionHandleState) (v : MarkedChunk) (creation : Turn) → v.limit ≡ 65536 + 32 * bundles
    → IsFirst bundles 1 first → IsLife v first.region.keeper creation [] [] → Lives bundles first v
goes_through bundles first v creation at is life =
    let limit : ℕ = 65536 + 32 * bundles in
    let deletion : Turn = life.deletion in
    let reclaim : Turn = life.reclaim in
    let start : World = first_world limit 1 in
    let one : IsTurn limit 1 [] first.region creation =
    subst (λ (r : Region). IsTurn limit 1 [] r creation) (sym (first_is bundles first v at is))
    (subst (λ (l : ℕ). IsTurn l 1 [] (first_region v.limit first.region.keeper) creation) at life.history.turns_are.0) in
    let two : IsTurn limit 1 creation.events creation.region deletion =
    subst (λ (l : ℕ). IsTurn l 1 creation.events creation.region deletion) at life.history.turns_are.1.0 in
    let three : IsTurn limit 1 (creation.events ++ deletion.events) deletion.region reclaim =
    subst (λ (l : ℕ). IsTurn l 1 (creation.events ++ deletion.events) deletion.region reclaim) at life.history.turns_are.1.1.0 in
    let created : Host = record {
      handle = record first { region = creation.region };
      world = world_after start creation.events;
      steps = word_steps creation.events;
      pending = [];
      announced = writers creation.events;
    } in
    let deleted : Host = record {
      handle = record first { region = deletion.region };
      world = world_after (world_after start creation.events) deletion.events;
      steps = word_steps creation.events ++ word_steps deletion.events;
      pending = [];
      announced = writers deletion.events;
    } in
    let last : Host = record {
      handle = record first { region = reclaim.region };
      world = world_after (world_after (world_after start creation.events) deletion.events) (Exits 0 ∷ Takes 0 ∷ Stores 0 ∷ Looks 0 ∷ []);
      steps = (word_steps creation.events ++ word_steps deletion.events) ++ word_steps (Exits 0 ∷ Takes 0 ∷ Stores 0 ∷ Looks 0 ∷ []);
      pending = Frees (span_of v) ∷ [];
      announced = writers reclaim.events;
    } in
    let creates : GoesOn bundles 1 (new_host bundles 1 first) created =
    turns bundles 1 (new_host bundles 1 first) [] creation.events [] creation (First is refl refl refl refl) refl is.begun refl refl one
    (sym (append-nil creation.events)) in
    let deletes : GoesOn bundles 1 created deleted =
    turns bundles 1 created creation.events deletion.events [] deletion
    (reached_by bundles 1 (new_host bundles 1 first) created creates) refl is.begun refl refl two (sym (append-nil deletion.events)) in
    let reclaims : GoesOn bundles 1 deleted last =
    turns bundles 1 deleted (creation.events ++ deletion.events) (Exits 0 ∷ Takes 0 ∷ Stores 0 ∷ Looks 0 ∷ []) (Frees (span_of v) ∷ []) reclaim
    (reached_by bundles 1 created deleted deletes) refl is.begun (sym (after_append start creation.events deletion.events))
    (sym (steps_append creation.events deletion.events)) three
    life.checks_in in
    let stands : ThreadIsIn limit (creation.events ++ deletion.events) (start_of v) =
    subst (λ (l : ℕ). ThreadIsIn l (creation.events ++ deletion.events) (start_of v)) at life.stays in (
      created,
      deleted,
      last,
      creates,
      subst (λ (r : Region). IsCreated r creation.region v) (sym (first_is bundles first v at is)) life.creates.created,
      deletes,
      life.deletes,
      subst (λ (w : World). (seat_at w 0).inside ≡ Some (start_of v)) (after_append start creation.events deletion.events) stands,
      reclaims,
      refl,
    )

-- each valid chunk has a host that deletes it with a thread in it, and is about to free its span
pub frees_next : (bundles : ℕ) (first : RegionHandleState) (v : MarkedChunk) → IsValid v → v.limit ≡ 65536 + 32 * bundles
    → IsFirst bundles 1 first → Lives bundles first v
frees_next bundles first v valid at is =
    let all = lives v first.region.keeper valid is.keeper in
    goes_through bundles first v all.0 at is (all.1 [] tt)
