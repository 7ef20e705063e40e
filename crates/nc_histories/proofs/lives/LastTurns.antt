-- The last turns of a chunk's life: the thread goes along a path, the chunk is deleted, the thread checks in, the span is freed.
use Rattle.std.proofs.Common.{◌≡◌, ℕ, zero, suc, ◌+◌, ◌-◌, ◌≤◌, ◌<◌, Bool, cond, List, [], ◌∷◌, ◌++◌, length, map, take, replicate}
use Rattle.std.proofs.Common.{arith, refl, ◌∙◌, sym, ap, subst, le_refl}
use Rattle.std.specs.Prelude.{All, slice_index}
use Rattle.std.proofs.lemmas.Bool.{eq-eqb}
use Rattle.std.proofs.lemmas.List.{take_at}
use Rattle.std.proofs.lemmas.List.Elements.{filter-append, All-nil, All-cons, All-append, All-take}
use Rattle.nc_decode.specs.declared.instruction.Mark.{Mark}
use Rattle.nc_vet.specs.Chunk.{MarkedChunk}
use Rattle.nc_text.specs.Machine.{State, Joined}
use Rattle.nc_text.specs.MarkedText.{MarkedText, with_span, unused_marks, unused_text}
use Rattle.nc_gens.specs.declared.view.KeeperNumbers.{KeeperNumbers}
use Rattle.nc_gens.specs.declared.view.WordStep.{WordStep}
use Rattle.nc_gens.specs.declared.view.WordStep.TheVariants.{AddedOne, TookGeneration, StoredSince, TookWord}
use Rattle.nc_gens.specs.Rule.{first_keeper_numbers, generation_raised}
use Rattle.nc_gens.specs.Trail.{BeginsWith, is_by_keeper, IsRising, numbers_by, seat_word}
use Rattle.nc_gens.proofs.Offered.{one_last, found_after, each_loaded, lowers_none, rising_none, rising_more}
use Rattle.nc_gens.specs.Seen.{KeeperState, HasLooked}
use Rattle.nc_list.specs.declared.chunk.ChunkState.TheVariants.{Retired}
use Rattle.nc_region.specs.schedules.Spans.{RetiredSpan}
use Rattle.nc_region.specs.schedules.World.{World, first_world, seat_at}
use Rattle.nc_region.specs.schedules.Events.{Event, Steps, Exits, Takes, Stores, Puts, Serializes, Marks, Retires, Frees, Looks, after, world_after}
use Rattle.nc_acts.specs.declared.acts.Entry.{Entry}
use Rattle.nc_region.specs.Region.{Region, live_chunk}
use Rattle.nc_region.specs.Deletion.{IsDeleted, IsReclaimed}
use Rattle.nc_region.proofs.Offered.{after_append, deleted_region, deleted_at, reclaimed_region, reclaimed_exists}
use Rattle.nc_acts.proofs.Offered.{same_code}
use Rattle.nc_histories.specs.Interleaving.{is_writers, writers, IsNoLook, ThreadsMay}
use Rattle.nc_histories.specs.Calls.{delete_events, reclaim_events}
use Rattle.nc_histories.specs.Histories.{NoneYet, Deletes, Reclaims, Turn, IsTurn, AreTurns}
use Rattle.nc_histories.specs.Example.{ThreadIsIn, start_of, last_of}
use Rattle.nc_histories.specs.Steps.{word_steps}
use Rattle.nc_histories.proofs.Entries.{stops_of, stops_then}
use Rattle.nc_histories.proofs.WordSteps.{steps_append}
use Rattle.nc_histories.proofs.CallSteps.{delete_steps}
use Rattle.nc_histories.proofs.lives.TextEvents.{AreOfText, own_before, may_before, delete_front, delete_parts, delete_front_text}
use Rattle.nc_histories.proofs.lives.OneSeat.{Stage, stage_of_text, seat_in, stage_gone, own_gone, may_go}

-- a region with one live chunk, over a keeper without a deletion so far
abbrev pub with_live : MarkedChunk → KeeperState → MarkedText → List Bool → List Entry → Region
with_live v keeper marked made logged =
    record {
      marked = marked;
      made = made;
      chunks = live_chunk v ∷ [];
      keeper = record keeper { numbers = first_keeper_numbers 1; trail = [] };
      logged = logged;
    }

-- the chunk's span once it is retired
abbrev pub span_of : MarkedChunk → RetiredSpan
span_of v = record { base = v.base; length = length v.code; stamp = 1 }

-- the last turns of a life, from the region in which the thread is in the chunk
pub record Ended (v : MarkedChunk) (before : List Event) (old : Region) (path : List State) : Type 0 where
  pub deletion : Turn
  pub reclaim : Turn
  pub turns_are : AreTurns v.limit 1 before old (deletion ∷ reclaim ∷ [])
  pub deletes : IsDeleted old deletion.region v.base 1
  pub goes : deletion.events ≡ map (Steps 0) path ++ delete_events old.marked.marks v.base (length v.code)
  pub stays : ThreadIsIn v.limit (before ++ deletion.events) (last_of (start_of v) path)
  pub checks_in : reclaim.events ≡ Exits 0 ∷ Takes 0 ∷ Stores 0 ∷ Looks 0 ∷ Frees (span_of v) ∷ []
  pub frees : IsReclaimed deletion.region reclaim.region 1
  pub no_chunk : reclaim.region.chunks ≡ []
  pub unused : reclaim.region.marked ≡ unused_text v.limit

-- the world in which the last turns begin, after these events: the thread is at the chunk's base, and the text has these bytes
pub record Begun (v : MarkedChunk) (before : List Event) (text : List ℕ) : Type 0 where
  pub stage : Stage v.limit (first_keeper_numbers 1) (seat_in (start_of v)) (world_after (first_world v.limit 1) before)
  pub text_is : (world_after (first_world v.limit 1) before).marked.bytes ≡ text
  pub steps : word_steps before ≡ []

-- ---- the deletion

-- the keeper's numbers after the deletion
abbrev pub second_numbers : KeeperNumbers
second_numbers = generation_raised (first_keeper_numbers 1)

-- the world after the events of a deletion
stage_deleted : (base len limit : ℕ) (now : State) (marks : List Mark) (w : World)
    → Stage limit (first_keeper_numbers 1) (seat_in now) w
    → Stage limit second_numbers (seat_in now) (world_after w (delete_events marks base len))
stage_deleted base len limit now marks w s =
    let front = stage_of_text limit (first_keeper_numbers 1) (seat_in now) w (delete_front marks base len)
    (delete_front_text marks base len) s in
    subst (λ (z : List Event). Stage limit second_numbers (seat_in now) (world_after w z)) (sym (delete_parts marks base len))
    (subst (Stage limit second_numbers (seat_in now)) (sym (after_append w (delete_front marks base len) (Retires base len ∷ [])))
    (record {
      marked = front.marked;
      earlier = front.earlier;
      retired = record { base = base; length = len; stamp = 1 } ∷ front.retired;
      is = ap (λ (x : World). after x (Retires base len)) front.is;
      as_long = front.as_long;
    }))

-- all events of a deletion are the writer's
own_deleted : (marks : List Mark) (base len : ℕ) → writers (delete_events marks base len) ≡ delete_events marks base len
own_deleted marks base len =
    ap writers (delete_parts marks base len)
    ∙ (own_before (delete_front marks base len) (Retires base len ∷ []) (delete_front_text marks base len) ∙ sym (delete_parts marks base len))

-- the events of a deletion ask nothing of the thread
may_deleted : (marks : List Mark) (base len : ℕ) (w : World) → ThreadsMay w (delete_events marks base len)
may_deleted marks base len w =
    subst (ThreadsMay w) (sym (delete_parts marks base len))
    (may_before w (delete_front marks base len) (Retires base len ∷ []) (delete_front_text marks base len) ((λ e. tt), tt))

-- the region after the deletion
abbrev deleted_of : MarkedChunk → KeeperState → MarkedText → List Bool → List Entry → Region
deleted_of v keeper marked made logged = deleted_region (with_live v keeper marked made logged) 0 (live_chunk v)

-- the events of the deletion's turn: the thread goes its path before the deletion
abbrev gone_and_deleted : MarkedChunk → List State → List Mark → List Event
gone_and_deleted v path marks = map (Steps 0) path ++ delete_events marks v.base (length v.code)

-- the turn of the deletion
abbrev deletion_turn : MarkedChunk → KeeperState → MarkedText → List Bool → List Entry → List State → Turn
deletion_turn v keeper marked made logged path =
    record { events = gone_and_deleted v path marked.marks; region = deleted_of v keeper marked made logged }

-- the deletion leaves the region with the chunk deleted (`IsDeleted`)
abbrev deletes_of : (v : MarkedChunk) (keeper : KeeperState) (marked : MarkedText) (made : List Bool) (logged : List Entry)
    → IsDeleted (with_live v keeper marked made logged) (deleted_of v keeper marked made logged) v.base 1
deletes_of v keeper marked made logged = deleted_at (with_live v keeper marked made logged) 0 (live_chunk v) refl refl (omega arith)

-- the world after what happened before and the deletion's turn
stage_then : (v : MarkedChunk) (before : List Event) (marks : List Mark) (path : List State)
    → Stage v.limit (first_keeper_numbers 1) (seat_in (start_of v)) (world_after (first_world v.limit 1) before)
    → Stage v.limit second_numbers (seat_in (last_of (start_of v) path))
    (world_after (first_world v.limit 1) (before ++ gone_and_deleted v path marks))
stage_then v before marks path s =
    let w = world_after (first_world v.limit 1) before in
    subst (Stage v.limit second_numbers (seat_in (last_of (start_of v) path)))
    (sym (after_append (first_world v.limit 1) before (gone_and_deleted v path marks)
    ∙ after_append (world_after (first_world v.limit 1) before) (map (Steps 0) path) (delete_events marks v.base (length v.code))))
    (stage_deleted v.base (length v.code) v.limit (last_of (start_of v) path) marks
    (world_after (world_after (first_world v.limit 1) before) (map (Steps 0) path))
    (stage_gone v.limit (first_keeper_numbers 1) (start_of v) w path s))

-- a thread's path takes no step on the words
path_steps : (path : List State) → word_steps (map (Steps 0) path) ≡ []
path_steps [] = refl
path_steps (next ∷ path) = path_steps path

-- the one step on the words is that of the stamp
deletion_steps : (v : MarkedChunk) (before : List Event) (path : List State) (marks : List Mark) → word_steps before ≡ []
    → word_steps (before ++ gone_and_deleted v path marks) ≡ AddedOne ∷ []
deletion_steps v before path marks none =
    steps_append before (gone_and_deleted v path marks)
    ∙ (ap (λ (l : List WordStep). l ++ word_steps (gone_and_deleted v path marks)) none
    ∙ (steps_append (map (Steps 0) path) (delete_events marks v.base (length v.code))
    ∙ (λ i. path_steps path i ++ delete_steps marks v.base (length v.code) i)))

-- where the writer looks at no word, it doesn't in the first events
front_none : (made later : List Event) → All IsNoLook (writers (made ++ later)) → All IsNoLook (writers made)
front_none made later none =
    subst (All IsNoLook) (take_at (writers made) (writers later) (length (writers made)) refl)
    (All-take IsNoLook (length (writers made)) (writers made ++ writers later) (subst (All IsNoLook) (filter-append is_writers made later) none))

-- events of the text are no looks
text_no_look : (events : List Event) → AreOfText events → All IsNoLook events
text_no_look [] is = All-nil IsNoLook
text_no_look (Puts at byte ∷ events) is = All-cons IsNoLook (Puts at byte) events tt (text_no_look events is)
text_no_look (Serializes ∷ events) is = All-cons IsNoLook Serializes events tt (text_no_look events is)
text_no_look (Marks at marks ∷ events) is = All-cons IsNoLook (Marks at marks) events tt (text_no_look events is)
text_no_look (event ∷ events) is = absurd is

-- nor are those of a deletion with a thread's path before
deletion_no_look : (v : MarkedChunk) (path : List State) (marks : List Mark) → All IsNoLook (writers (gone_and_deleted v path marks))
deletion_no_look v path marks =
    subst (All IsNoLook)
    (sym (own_gone path (delete_events marks v.base (length v.code)) ∙ own_deleted marks v.base (length v.code)
    ∙ delete_parts marks v.base (length v.code)))
    (All-append IsNoLook (delete_front marks v.base (length v.code)) (Retires v.base (length v.code) ∷ [])
    (text_no_look (delete_front marks v.base (length v.code)) (delete_front_text marks v.base (length v.code)))
    (All-cons IsNoLook (Retires v.base (length v.code)) [] tt (All-nil IsNoLook)))

-- the deletion after the thread's path is a turn (`IsTurn`)
deletion_is_turn : (v : MarkedChunk) (keeper : KeeperState) (marked : MarkedText) (made : List Bool) (logged : List Entry)
    (before : List Event) (path : List State) → Begun v before marked.bytes → Joined marked.bytes (start_of v) path
    → IsTurn v.limit 1 before (with_live v keeper marked made logged) (deletion_turn v keeper marked made logged path)
deletion_is_turn v keeper marked made logged before path b joined =
    let w = world_after (first_world v.limit 1) before in
    record {
      call = Deletes v.base 1 (deletes_of v keeper marked made logged)
          (stops_of marked.marks v.base (length v.code)) [] (stops_then marked.marks v.base (length v.code)) NoneYet
          (own_gone path (delete_events marked.marks v.base (length v.code)) ∙ own_deleted marked.marks v.base (length v.code));
      threads = may_go v.limit (first_keeper_numbers 1) marked.bytes (start_of v) w path (delete_events marked.marks v.base (length v.code))
          b.stage b.text_is joined
          (may_deleted marked.marks v.base (length v.code)
          (world_after (world_after (first_world v.limit 1) before) (map (Steps 0) path)));
      order = λ made later parts some none. absurd (some (front_none made later (subst (λ (l : List Event). All IsNoLook (writers l)) parts
          (deletion_no_look v path marked.marks))));
    }

-- ---- the reclaim

-- the keeper's numbers after the reclaim
abbrev pub third_numbers : KeeperNumbers
third_numbers = record { generation = 1; bounds = 1 ∷ []; looks = 1 ∷ [] }

-- the steps on the words up to the look
abbrev pub last_trail : List WordStep
last_trail = AddedOne ∷ TookGeneration 0 ∷ StoredSince 0 ∷ TookWord 0 ∷ []

-- the events of the reclaim's turn
abbrev pub last_events : MarkedChunk → List Event
last_events v = Exits 0 ∷ Takes 0 ∷ Stores 0 ∷ Looks 0 ∷ Frees (span_of v) ∷ []

-- the region after the reclaim
abbrev reclaimed_of : MarkedChunk → KeeperState → MarkedText → List Bool → List Entry → Region
reclaimed_of v keeper marked made logged =
    reclaimed_region (deleted_of v keeper marked made logged) (record keeper { numbers = third_numbers; trail = last_trail })

-- the one seat was looked at once more
one_more : (i : ℕ) → i < 1 → slice_index third_numbers.looks i ≡ slice_index second_numbers.looks i + 1
one_more zero lt = refl
one_more (suc i) lt = absurd (omega (arith, lt))

-- the one seat's bound is no lower than before the look
not_lower : (i : ℕ) → i < 1 → slice_index second_numbers.bounds i ≤ slice_index third_numbers.bounds i
not_lower zero lt = omega arith
not_lower (suc i) lt = absurd (omega (arith, lt))

-- no step of the trail lowers the one seat's word
rises : IsRising 1 last_trail
rises =
    rising_more 1 (AddedOne ∷ TookGeneration 0 ∷ StoredSince 0 ∷ []) (TookWord 0) (λ k. le_refl (seat_word 1 last_trail k))
    (rising_more 1 (AddedOne ∷ TookGeneration 0 ∷ []) (StoredSince 0)
    (lowers_none (numbers_by 1 (AddedOne ∷ TookGeneration 0 ∷ [])) 0 _ (omega arith) (omega arith))
    (rising_more 1 (AddedOne ∷ []) (TookGeneration 0) (lowers_none (numbers_by 1 (AddedOne ∷ [])) 0 _ (omega arith) (omega arith))
    (rising_more 1 [] AddedOne (λ k. le_refl (seat_word 1 [] k)) (rising_none 1))))

-- the keeper has looked at the one seat
has_looked : (keeper : KeeperState)
    → HasLooked (record keeper { numbers = second_numbers; trail = AddedOne ∷ [] })
    (record keeper { numbers = third_numbers; trail = last_trail })
has_looked keeper = record {
  table = refl;
  generation = refl;
  looks = (refl, one_more);
  counted = refl;
  raised = (refl, not_lower);
  steps = record {
    adds = record {
      later = TookGeneration 0 ∷ StoredSince 0 ∷ TookWord 0 ∷ [];
      all = refl;
      own_are = refl;
      ends = λ others last e. ap is_by_keeper (sym (one_last (TookGeneration 0 ∷ StoredSince 0 ∷ []) others (TookWord 0) last e));
    };
    seats = refl;
    led_to = λ led. refl;
  };
  led_to = refl;
  rising = rises;
  found = λ k inside. found_after 1 k (AddedOne ∷ []) (TookGeneration 0 ∷ StoredSince 0 ∷ TookWord 0 ∷ []) inside
      (each_loaded 1 k (TookGeneration 0 ∷ StoredSince 0 ∷ TookWord 0 ∷ []) [] inside refl);
}

-- the reclaim leaves the region reclaimed (`IsReclaimed`)
abbrev reclaims_of : (v : MarkedChunk) (keeper : KeeperState) (marked : MarkedText) (made : List Bool) (logged : List Entry)
    → IsReclaimed (deleted_of v keeper marked made logged) (reclaimed_of v keeper marked made logged) 1
reclaims_of v keeper marked made logged =
    reclaimed_exists (deleted_of v keeper marked made logged) (record keeper { numbers = third_numbers; trail = last_trail })
    (has_looked keeper)

-- the turn of the reclaim
abbrev reclaim_turn : MarkedChunk → KeeperState → MarkedText → List Bool → List Entry → Turn
reclaim_turn v keeper marked made logged = record { events = last_events v; region = reclaimed_of v keeper marked made logged }

-- the writer's events of the reclaim's turn are those of a reclaim
own_reclaimed : (v : MarkedChunk) → writers (last_events v)
    ≡ reclaim_events 1 1 (record { base = v.base; length = length v.code; state = Retired 1 } ∷ [])
own_reclaimed v =
    ap (λ (b : Bool). Looks 0 ∷ Frees (cond b (span_of v) (record { base = v.base; length = 0; stamp = 0 })) ∷ [])
    (sym (eq-eqb v.base v.base refl))

-- the thread may exit and check in
may_check_in : (v : MarkedChunk) (now : State) (w : World) → Stage v.limit second_numbers (seat_in now) w → ThreadsMay w (last_events v)
may_check_in v now w s =
    subst (λ (x : World). ThreadsMay x (last_events v)) (sym s.is)
    ((λ e. tt), ((λ e. refl), ((λ e. refl), ((λ e. tt), ((λ e. tt), tt)))))

-- the steps of the last turn's first events, if the look is among them
last_steps : (v : MarkedChunk) (n : ℕ) → ¬ All IsNoLook (writers (take n (last_events v)))
    → word_steps (take n (last_events v)) ≡ TookGeneration 0 ∷ StoredSince 0 ∷ TookWord 0 ∷ []
last_steps v zero some = absurd (some (All-nil IsNoLook))
last_steps v (suc zero) some = absurd (some (All-nil IsNoLook))
last_steps v (suc (suc zero)) some = absurd (some (All-nil IsNoLook))
last_steps v (suc (suc (suc zero))) some = absurd (some (All-nil IsNoLook))
last_steps v (suc (suc (suc (suc zero)))) some = refl
last_steps v (suc (suc (suc (suc (suc zero))))) some = refl
last_steps v (suc (suc (suc (suc (suc (suc n)))))) some = refl

-- once the last turn's look is made, the steps so far are those of the trail
looked_last : (v : MarkedChunk) (before made later : List Event) → word_steps before ≡ AddedOne ∷ [] → last_events v ≡ made ++ later
    → ¬ All IsNoLook (writers made) → BeginsWith (word_steps (before ++ made)) last_trail
looked_last v before made later steps parts some =
    let front : take (length made) (last_events v) ≡ made = ap (take (length made)) parts ∙ take_at made later (length made) refl in
    let own : word_steps made ≡ TookGeneration 0 ∷ StoredSince 0 ∷ TookWord 0 ∷ [] =
    ap word_steps (sym front)
    ∙ last_steps v (length made) (λ all. some (subst (λ (l : List Event). All IsNoLook (writers l)) front all)) in
    ([], steps_append before made ∙ (λ i. steps i ++ own i))

-- the reclaim with the thread's check-in is a turn (`IsTurn`)
reclaim_is_turn : (v : MarkedChunk) (keeper : KeeperState) (marked : MarkedText) (made : List Bool) (logged : List Entry)
    (before : List Event) (now : State) → Stage v.limit second_numbers (seat_in now) (world_after (first_world v.limit 1) before)
    → word_steps before ≡ AddedOne ∷ []
    → IsTurn v.limit 1 before (deleted_of v keeper marked made logged) (reclaim_turn v keeper marked made logged)
reclaim_is_turn v keeper marked made logged before now s steps = record {
  call = Reclaims 1 (reclaims_of v keeper marked made logged) (own_reclaimed v);
  threads = may_check_in v now (world_after (first_world v.limit 1) before) s;
  order = λ made later parts some none. looked_last v before made later steps parts some;
}

-- ---- both

-- the turns of the deletion and the reclaim end the chunk's life
pub ended : (v : MarkedChunk) (keeper : KeeperState) (marked : MarkedText) (made : List Bool) (logged : List Entry) (before : List Event)
    → Begun v before marked.bytes
    → with_span marked.bytes (v.base - 65536) (replicate (length v.code) 244) ≡ (unused_text v.limit).bytes
    → with_span marked.marks (v.base - 65536) (unused_marks v.base (length v.code)) ≡ (unused_text v.limit).marks
    → (path : List State) → Joined marked.bytes (start_of v) path → Ended v before (with_live v keeper marked made logged) path
ended v keeper marked made logged before b bytes marks path joined =
    let then = stage_then v before marked.marks path b.stage in
    record {
      deletion = deletion_turn v keeper marked made logged path;
      reclaim = reclaim_turn v keeper marked made logged;
      turns_are = (
        deletion_is_turn v keeper marked made logged before path b joined,
        (
          reclaim_is_turn v keeper marked made logged (before ++ gone_and_deleted v path marked.marks) (last_of (start_of v) path) then
              (deletion_steps v before path marked.marks b.steps),
          tt,
        ),
      );
      deletes = deletes_of v keeper marked made logged;
      goes = refl;
      stays = ap (λ (x : World). (seat_at x 0).inside) then.is;
      checks_in = refl;
      frees = reclaims_of v keeper marked made logged;
      no_chunk = refl;
      unused = same_code (reclaimed_of v keeper marked made logged).marked (unused_text v.limit) bytes marks;
    }
