-- The first turn of a chunk's life: it is created while the thread enters it.
use Rattle.std.proofs.Common.{◌≡◌, ◌≢◌, ℕ, zero, suc, ◌+◌, ◌-◌, ◌%◌, ◌≤◌, ◌⊎◌, not, Bool, true, false, cond, List, [], ◌∷◌, ◌++◌, length, replicate}
use Rattle.std.proofs.Common.{inl, inr, arith, refl, ◌∙◌, sym, ap, subst, append_assoc}
use Rattle.std.specs.List.{insert}
use Rattle.std.proofs.lemmas.List.{length-replicate}
use Rattle.std.proofs.lemmas.List.FromFn.{length-map-range_with_len}
use Rattle.std.proofs.lemmas.List.Elements.{Contains-append_left, Contains-append_right}
use Rattle.nc_decode.specs.declared.instruction.Mark.{Mark}
use Rattle.nc_decode.specs.declared.instruction.Mark.TheVariants.{Unmarked}
use Rattle.nc_vet.specs.Chunk.{MarkedChunk, IsValid}
use Rattle.nc_vet.proofs.Offered.{length-marks_of}
use Rattle.nc_text.specs.Places.{limit_of}
use Rattle.nc_text.specs.MarkedText.{with_span, unused_mark, unused_marks, unused_text}
use Rattle.nc_gens.specs.Rule.{first_keeper_numbers}
use Rattle.nc_gens.specs.Seen.{KeeperState}
use Rattle.nc_list.specs.declared.chunk.Chunk.{Chunk}
use Rattle.nc_region.specs.schedules.World.{World, first_seat, first_world, seat_at}
use Rattle.nc_region.specs.schedules.Events.{Event, Enters, Puts, Serializes, Marks, ThreadMay, after, world_after}
use Rattle.nc_acts.specs.declared.acts.Act.TheVariants.{Put}
use Rattle.nc_acts.specs.Acts.{puts_where, is_inside, is_start}
use Rattle.nc_region.specs.Region.{Region, IsCreated, live_chunk}
use Rattle.nc_region.proofs.Offered.{after_append}
use Rattle.nc_acts.proofs.Offered.{start_or_not, is_inside_false}
use Rattle.nc_histories.specs.Interleaving.{writers, ThreadsMay}
use Rattle.nc_histories.specs.Calls.{Details, no_details, create_events}
use Rattle.nc_histories.specs.Histories.{NoneYet, Creates, Turn, IsTurn}
use Rattle.nc_histories.specs.Example.{first_region, PutsSome, start_of, CreatesAround}
use Rattle.nc_histories.proofs.Entries.{events_of}
use Rattle.nc_histories.specs.Steps.{word_steps}
use Rattle.nc_histories.proofs.WordSteps.{steps_append, begins_with_none}
use Rattle.nc_histories.proofs.CallSteps.{text_steps}
use Rattle.nc_histories.proofs.lives.Refilled.{span_over, same_over, unused_over}
use Rattle.nc_histories.proofs.lives.TextEvents.{own_of_text, own_before, may_before, may_of_text, create_first, create_second, create_parts}
use Rattle.nc_histories.proofs.lives.TextEvents.{create_first_text, create_second_text}
use Rattle.nc_histories.proofs.lives.OneSeat.{Stage, first_stage, stage_of_text, seat_in, stage_entered}
use Rattle.nc_histories.proofs.lives.LastTurns.{with_live}

-- ---- puts among the events

-- a byte inside the first bundle is put
put_inside : (d : Details) (base : ℕ) (code : List ℕ) → base % 32 ≡ 0 → 2 ≤ length code
    → PutsSome (events_of d (puts_where is_inside base code))
put_inside d base [] start some = absurd (omega (arith, some))
put_inside d base (x ∷ []) start some = absurd (omega (arith, some))
put_inside d base (x ∷ y ∷ rest) start some =
    subst
    (λ (b : Bool). PutsSome (events_of d (cond b (Put base x ∷ puts_where is_inside (base + 1) (y ∷ rest))
    (puts_where is_inside (base + 1) (y ∷ rest)))))
    (sym (is_inside_false base start)) (go (start_or_not (base + 1)))
  where
    go : ((is_start (base + 1) ≡ true) × ((base + 1) % 32 ≡ 0)) ⊎ ((is_start (base + 1) ≡ false) × ((base + 1) % 32 ≢ 0))
        → PutsSome (events_of d (puts_where is_inside (base + 1) (y ∷ rest)))
    go (inl at_start) = absurd (omega (arith, at_start.1, start))
    go (inr inside) =
        subst
        (λ (b : Bool). PutsSome (events_of d (cond (not b) (Put (base + 1) y ∷ puts_where is_inside (base + 1 + 1) rest)
        (puts_where is_inside (base + 1 + 1) rest))))
        (sym inside.0) (base + 1, y, (0, omega arith, refl))

-- a byte at the first bundle start is put
put_at_start : (d : Details) (base : ℕ) (code : List ℕ) → base % 32 ≡ 0 → 1 ≤ length code
    → PutsSome (events_of d (puts_where is_start base code))
put_at_start d base [] start some = absurd (omega (arith, some))
put_at_start d base (x ∷ rest) start some = go (start_or_not base)
  where
    go : ((is_start base ≡ true) × (base % 32 ≡ 0)) ⊎ ((is_start base ≡ false) × (base % 32 ≢ 0))
        → PutsSome (events_of d (puts_where is_start base (x ∷ rest)))
    go (inl at_start) =
        subst
        (λ (b : Bool). PutsSome (events_of d (cond b (Put base x ∷ puts_where is_start (base + 1) rest)
        (puts_where is_start (base + 1) rest))))
        (sym at_start.0) (base, x, (0, omega arith, refl))
    go (inr inside) = absurd (inside.1 start)

-- ---- the creation

-- the events of the creation's turn: the thread enters before the serialization
abbrev pub creation_events : MarkedChunk → List Event
creation_events v = create_first v ++ Enters 0 v.base ∷ create_second v

-- the events of the creation's turn up to the thread's entering
abbrev until_entered : MarkedChunk → List Event
until_entered v = create_first v ++ Enters 0 v.base ∷ []

-- the writer's events of the creation's turn are those of a creation
own_created : (v : MarkedChunk) → writers (creation_events v) ≡ create_events v
own_created v =
    own_before (create_first v) (Enters 0 v.base ∷ create_second v) (create_first_text v)
    ∙ (ap (λ (z : List Event). create_first v ++ z) (own_of_text (create_second v) (create_second_text v)) ∙ sym (create_parts v))

-- the events of the creation's turn take no step on the words
pub creation_steps : (v : MarkedChunk) → word_steps (creation_events v) ≡ []
creation_steps v =
    steps_append (create_first v) (Enters 0 v.base ∷ create_second v)
    ∙ (λ i. text_steps (create_first v) (create_first_text v) i ++ text_steps (create_second v) (create_second_text v) i)

-- the world of the creation's turn before the thread enters
stage_first : (v : MarkedChunk) → Stage v.limit (first_keeper_numbers 1) first_seat (world_after (first_world v.limit 1) (create_first v))
stage_first v =
    stage_of_text v.limit (first_keeper_numbers 1) first_seat (first_world v.limit 1) (create_first v) (create_first_text v)
    (first_stage v.limit)

-- the world of the creation's turn when the thread has entered
stage_inside : (v : MarkedChunk)
    → Stage v.limit (first_keeper_numbers 1) (seat_in (start_of v)) (world_after (first_world v.limit 1) (until_entered v))
stage_inside v =
    subst (Stage v.limit (first_keeper_numbers 1) (seat_in (start_of v)))
    (sym (after_append (first_world v.limit 1) (create_first v) (Enters 0 v.base ∷ [])))
    (stage_entered v.limit (first_keeper_numbers 1) v.base (world_after (first_world v.limit 1) (create_first v)) (stage_first v))

-- the events of the creation's turn are those up to the thread's entering and those after it
creation_parts : (v : MarkedChunk) → creation_events v ≡ until_entered v ++ create_second v
creation_parts v = sym (append_assoc (create_first v) (Enters 0 v.base ∷ []) (create_second v))

-- the world after the creation's turn
pub stage_created : (v : MarkedChunk)
    → Stage v.limit (first_keeper_numbers 1) (seat_in (start_of v)) (world_after (first_world v.limit 1) (creation_events v))
stage_created v =
    subst (λ (z : List Event). Stage v.limit (first_keeper_numbers 1) (seat_in (start_of v)) (world_after (first_world v.limit 1) z))
    (sym (creation_parts v))
    (subst (Stage v.limit (first_keeper_numbers 1) (seat_in (start_of v)))
    (sym (after_append (first_world v.limit 1) (until_entered v) (create_second v)))
    (stage_of_text v.limit (first_keeper_numbers 1) (seat_in (start_of v)) (world_after (first_world v.limit 1) (until_entered v))
    (create_second v) (create_second_text v) (stage_inside v)))

-- the thread may enter in the creation's turn
may_enter : (v : MarkedChunk) → IsValid v → ThreadsMay (first_world v.limit 1) (creation_events v)
may_enter v valid =
    let w = world_after (first_world v.limit 1) (create_first v) in
    let s = stage_first v in
    may_before (first_world v.limit 1) (create_first v) (Enters 0 v.base ∷ create_second v) (create_first_text v) (
      (λ e. subst (λ (x : World). ThreadMay x (Enters 0 v.base)) (sym s.is) (
        refl,
        refl,
        (valid.base_is.1, omega (arith, s.as_long, valid.range.1, valid.base_is.1, valid.length_is.0)),
        valid.base_is.0,
      )),
      may_of_text (after (world_after (first_world v.limit 1) (create_first v)) (Enters 0 v.base)) (create_second v)
          (create_second_text v),
    )

-- a keeper with the first numbers
abbrev pub fresh : KeeperState → KeeperState
fresh keeper = record keeper { numbers = first_keeper_numbers 1; trail = [] }

-- a chunk inserted in the empty list
insert_none : (k : ℕ) (c : Chunk) → insert [] k c ≡ c ∷ []
insert_none zero c = refl
insert_none (suc k) c = refl

-- the region that a creation in a new region leaves
pub same_created : (v : MarkedChunk) (keeper : KeeperState) (created : Region) → IsCreated (first_region v.limit (fresh keeper)) created v
    → created ≡ with_live v keeper created.marked created.made created.logged
same_created v keeper created is =
    is.others
    ∙ ap (λ (z : List Chunk). let r : Region = record {
      marked = created.marked;
      made = created.made;
      chunks = z;
      keeper = record keeper { numbers = first_keeper_numbers 1; trail = [] };
      logged = created.logged;
    } in r) (is.chunks.2 ∙ insert_none is.chunks.0 (live_chunk v))

-- the limit of the unused text is the chunk's
same_limit : (v : MarkedChunk) → IsValid v → v.limit ≡ limit_of (unused_text v.limit).bytes
same_limit v valid = omega (arith, length-replicate {A = ℕ} (v.limit - 65536) 244, valid.range.1, valid.base_is.1)

-- the turn of the creation
abbrev pub creation_turn : (v : MarkedChunk) (created : Region) → Turn
creation_turn v created = record { events = creation_events v; region = created }

-- the creation with the thread's entering is a turn (`IsTurn`)
pub creation_is_turn : (v : MarkedChunk) (keeper : KeeperState) (created : Region) → IsValid v
    → IsCreated (first_region v.limit (fresh keeper)) created v
    → IsTurn v.limit 1 [] (first_region v.limit (fresh keeper)) (creation_turn v created)
creation_is_turn v keeper created valid is = record {
  call = Creates v valid (same_limit v valid) is [] NoneYet (own_created v);
  threads = may_enter v valid;
  order = λ made later parts some none. begins_with_none (word_steps made) created.keeper.trail (ap (λ (r : Region). r.keeper.trail) is.others);
}

-- the turn of the creation stands around the thread's entering
pub creates_around : (v : MarkedChunk) (keeper : KeeperState) (created : Region) → IsValid v
    → IsCreated (first_region v.limit (fresh keeper)) created v → CreatesAround v (fresh keeper) (creation_turn v created)
creates_around v keeper created valid is =
    let d : Details = record no_details { marks = v.marks } in
    let long : 32 ≤ length v.code = omega (arith, valid.length_is.0, valid.length_is.1) in
    let before = put_inside (record no_details { marks = v.marks }) v.base v.code valid.base_is.0 (omega (arith, long)) in
    let behind = put_at_start (record no_details { marks = v.marks }) v.base v.code valid.base_is.0 (omega (arith, long)) in
    record {
      created = is;
      own = own_created v;
      earlier = until_entered v;
      later = create_second v;
      parts = creation_parts v;
      put_before = (
        before.0,
        before.1,
        Contains-append_left (create_first v) (Enters 0 v.base ∷ []) (Puts before.0 before.1) before.2,
      );
      put_after = (
        behind.0,
        behind.1,
        Contains-append_right (Serializes ∷ Marks v.base v.marks ∷ [])
            (events_of (record no_details { marks = v.marks }) (puts_where is_start v.base v.code)) (Puts behind.0 behind.1) behind.2,
      );
      inside = ap (λ (x : World). (seat_at x 0).inside) (stage_inside v).is;
      waits = own_of_text (create_second v) (create_second_text v);
    }

-- ---- what the deletion and the reclaim undo

-- the chunk lies in the region
pub lies_in : (v : MarkedChunk) → IsValid v → v.base - 65536 + length v.code ≤ v.limit - 65536
lies_in v valid = omega (arith, valid.range.1, valid.base_is.1)

-- the bytes of the created chunk, set to stops, are those of the unused text
pub bytes_back : (v : MarkedChunk) (keeper : KeeperState) (created : Region) → IsValid v
    → IsCreated (first_region v.limit (fresh keeper)) created v
    → with_span created.marked.bytes (v.base - 65536) (replicate (length v.code) 244) ≡ (unused_text v.limit).bytes
bytes_back v keeper created valid is =
    let long = length-replicate {A = ℕ} (v.limit - 65536) 244 in
    let stops = length-replicate {A = ℕ} (length v.code) 244 in
    ap (λ (z : List ℕ). with_span z (v.base - 65536) (replicate (length v.code) 244)) is.bytes
    ∙ (span_over (unused_text v.limit).bytes (v.base - 65536) v.code (v.base - 65536) (replicate (length v.code) 244) 0
    (omega (arith, long, stops, lies_in v valid)) (omega arith) (omega (arith, stops))
    ∙ same_over (v.limit - 65536) (v.base - 65536) (length v.code) 244 (lies_in v valid))

-- the marks of the created chunk, set to unused ones, are those of the unused text
pub marks_back : (v : MarkedChunk) (keeper : KeeperState) (created : Region) → IsValid v
    → IsCreated (first_region v.limit (fresh keeper)) created v
    → with_span created.marked.marks (v.base - 65536) (unused_marks v.base (length v.code)) ≡ (unused_text v.limit).marks
marks_back v keeper created valid is =
    let long = length-map-range_with_len unused_mark 65536 (v.limit - 65536) in
    let some = length-map-range_with_len unused_mark v.base (length v.code) in
    let own : length v.marks ≡ length v.code = ap (λ (z : List Mark). length z) valid.marks_are
    ∙ (length-marks_of valid.pieces valid.sound.spelled ∙ sym (ap (λ (z : List ℕ). length z) valid.parts)) in
    ap (λ (z : List Mark). with_span z (v.base - 65536) (unused_marks v.base (length v.code))) is.marks
    ∙ (span_over (unused_text v.limit).marks (v.base - 65536) v.marks (v.base - 65536) (unused_marks v.base (length v.code)) Unmarked
    (omega (arith, long, some, lies_in v valid)) (omega arith) (omega (arith, some, own))
    ∙ unused_over (v.limit - 65536) (v.base - 65536) v.base (length v.code) (lies_in v valid) (omega (arith, valid.base_is.1)))
