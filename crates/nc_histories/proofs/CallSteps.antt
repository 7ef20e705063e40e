-- The keeper's steps in each call of a history are those of the call's own events.
use Rattle.std.proofs.Common.{◌≡◌, ℕ, zero, suc, ◌+◌, List, [], ◌∷◌, ◌++◌, filter, length, map, arith, refl, sym, ap, subst, ◌∙◌}
use Rattle.std.specs.List.{range_with_len}
use Rattle.std.proofs.lemmas.List.{append-nil, length-append}
use Rattle.nc_decode.specs.declared.instruction.Mark.{Mark}
use Rattle.nc_gens.specs.declared.view.WordStep.{WordStep}
use Rattle.nc_gens.specs.declared.view.WordStep.TheVariants.{AddedOne, TookWord}
use Rattle.nc_gens.specs.Trail.{is_by_keeper}
use Rattle.nc_gens.specs.Seen.{KeeperSteps, least_number}
use Rattle.nc_gens.proofs.Offered.{raised_steps, no_steps}
use Rattle.nc_vet.specs.Chunk.{MarkedChunk, Piece}
use Rattle.nc_list.specs.declared.chunk.Chunk.{Chunk}
use Rattle.nc_region.specs.schedules.Spans.{RetiredSpan}
use Rattle.nc_region.specs.schedules.Events.{Event, Puts, Serializes, Marks, Retires, Looks}
use Rattle.nc_acts.specs.declared.acts.Act.TheVariants.{Look}
use Rattle.nc_region.specs.Deletion.{freed, unmarkings}
use Rattle.nc_region.specs.Quiet.{retired_spans}
use Rattle.nc_region.specs.Region.{Region}
use Rattle.nc_histories.specs.Steps.{word_steps}
use Rattle.nc_histories.specs.Calls.{no_details, create_events, delete_events, patch_events, reclaim_events}
use Rattle.nc_histories.specs.Histories.{AreAttempts, NoneYet, OneMore, IsCall, Creates, Patches, Deletes, Reclaims, UsesKeeper, Refuses, Keeps}
use Rattle.nc_histories.proofs.Entries.{events_of_only_acts}
use Rattle.nc_histories.proofs.Refusals.{refusal_same, refusal_silent}
use Rattle.nc_histories.proofs.WordSteps.{steps_append, all_keepers}
use Rattle.nc_histories.proofs.Reclaiming.{frees, frees_same}
use Rattle.nc_histories.proofs.lives.TextEvents.{AreOfText, create_first, create_second, create_first_text, create_second_text, create_parts}
use Rattle.nc_histories.proofs.lives.TextEvents.{patch_text, delete_front, delete_parts, delete_front_text}

-- events of the text are no steps
pub text_steps : (events : List Event) → AreOfText events → word_steps events ≡ []
text_steps [] is = refl
text_steps (Puts at byte ∷ events) is = text_steps events is
text_steps (Serializes ∷ events) is = text_steps events is
text_steps (Marks at marks ∷ events) is = text_steps events is
text_steps (event ∷ events) is = absurd is

-- a deletion's one step is that of its stamp
pub delete_steps : (marks : List Mark) (base len : ℕ) → word_steps (delete_events marks base len) ≡ AddedOne ∷ []
delete_steps marks base len =
    ap word_steps (delete_parts marks base len)
    ∙ (steps_append (delete_front marks base len) (Retires base len ∷ [])
    ∙ ap (λ (l : List WordStep). l ++ AddedOne ∷ []) (text_steps (delete_front marks base len) (delete_front_text marks base len)))

-- a list without length is empty
empty : (xs : List WordStep) → length xs ≡ 0 → xs ≡ []
empty [] e = refl
empty (x ∷ xs) e = absurd (omega (arith, e))

-- the first of two lists with no element together has none
first_empty : (xs ys : List WordStep) → xs ++ ys ≡ [] → xs ≡ []
first_empty xs ys none = empty xs (let e = ap (λ (l : List WordStep). length l) none in let p = length-append xs ys in omega arith)

-- attempts at events that are no steps are none
attempt_steps : (events made : List Event) → AreAttempts events made → word_steps events ≡ [] → word_steps made ≡ []
attempt_steps events [] NoneYet none = refl
attempt_steps events _ (OneMore {earlier} first part rest own) none =
    steps_append earlier part
    ∙ (λ i. attempt_steps events earlier first none i
    ++ first_empty (word_steps part) (word_steps rest) (sym (steps_append part rest) ∙ (ap word_steps own ∙ none)) i)

-- the stops of a deletion are no steps
stop_steps : (marks : List Mark) (base len : ℕ) (stops : List Event) → stops ++ Retires base len ∷ [] ≡ delete_events marks base len
    → word_steps stops ≡ []
stop_steps marks base len stops own =
    let parts = steps_append stops (Retires base len ∷ []) in
    let long = length-append (word_steps stops) (AddedOne ∷ []) in
    let total = ap (λ (l : List WordStep). length l) (sym parts ∙ (ap word_steps own ∙ delete_steps marks base len)) in
    empty (word_steps stops) (omega (arith, long, total))

-- the steps of attempts and of the events themselves, if neither are any
tried_steps : (events made own : List Event) → AreAttempts events made → word_steps events ≡ [] → own ≡ made ++ events → word_steps own ≡ []
tried_steps events made own tried none same =
    ap word_steps same ∙ (steps_append made events ∙ (λ i. attempt_steps events made tried none i ++ none i))

-- the events of a creation are no steps
create_steps : (v : MarkedChunk) → word_steps (create_events v) ≡ []
create_steps v =
    ap word_steps (create_parts v)
    ∙ (steps_append (create_first v) (create_second v)
    ∙ (λ i. text_steps (create_first v) (create_first_text v) i ++ text_steps (create_second v) (create_second_text v) i))

-- the events of a patch are no steps
patch_steps : (text : List ℕ) (at : ℕ) (news : List Piece) → word_steps (patch_events text at news) ≡ []
patch_steps text at news = text_steps (patch_events text at news) (patch_text text at news)

-- looks at seats are loads of their words
look_steps : (a n : ℕ) → word_steps (map Looks (range_with_len a n)) ≡ map TookWord (range_with_len a n)
look_steps a zero = refl
look_steps a (suc n) = ap (λ (l : List WordStep). TookWord a ∷ l) (look_steps (a + 1) n)

-- these are the keeper's
looks_by_keeper : (a n : ℕ) → filter is_by_keeper (map TookWord (range_with_len a n)) ≡ map TookWord (range_with_len a n)
looks_by_keeper a zero = refl
looks_by_keeper a (suc n) = ap (λ (l : List WordStep). TookWord a ∷ l) (looks_by_keeper (a + 1) n)

-- freeing spans is no step
free_steps : (spans : List RetiredSpan) (cs : List Chunk) → word_steps (frees spans cs) ≡ []
free_steps spans [] = refl
free_steps spans (c ∷ cs) = free_steps spans cs

-- a reclaim's steps are its loads
pub reclaim_steps : (seats least : ℕ) (chunks : List Chunk)
    → filter is_by_keeper (word_steps (reclaim_events seats least chunks)) ≡ map TookWord (range_with_len 0 seats)
reclaim_steps seats least chunks =
    let looks : List Event = map Looks (range_with_len 0 seats) in
    let later : List Event = frees (retired_spans chunks) (freed least chunks) in
    ap (λ (l : List Event). filter is_by_keeper (word_steps l))
    (events_of_only_acts (record no_details { seats = seats; spans = retired_spans chunks }) (Look ∷ unmarkings (freed least chunks))
    ∙ ap (λ (z : List Event). map Looks (range_with_len 0 seats) ++ z) (frees_same seats (retired_spans chunks) (freed least chunks)))
    ∙ (ap (filter is_by_keeper) (steps_append (map Looks (range_with_len 0 seats)) (frees (retired_spans chunks) (freed least chunks))
    ∙ (λ i. look_steps 0 seats i ++ free_steps (retired_spans chunks) (freed least chunks) i)
    ∙ append-nil (map TookWord (range_with_len 0 seats)))
    ∙ looks_by_keeper 0 seats)

-- the steps of a keeper that is the same, in a call whose events are no steps
silent : (old new : Region) (own : List Event) → new.keeper ≡ old.keeper → word_steps own ≡ []
    → KeeperSteps old.keeper new.keeper (filter is_by_keeper (word_steps own))
silent old new own same none =
    subst (KeeperSteps old.keeper new.keeper) (ap (filter is_by_keeper) (sym none)) (no_steps old.keeper new.keeper same)

-- in each call the keeper takes its steps among those of the call's events
pub call_steps : (seats : ℕ) (old new : Region) (own : List Event) → length old.keeper.numbers.bounds ≡ seats → IsCall seats old new own
    → KeeperSteps old.keeper new.keeper (filter is_by_keeper (word_steps own))
call_steps seats old new own many (Creates v valid lim is made tried same) =
    silent old new own (ap (λ (r : Region). r.keeper) is.others) (tried_steps (create_events v) made own tried (create_steps v) same)
call_steps seats old new own many (Patches at bytes news lawful b is made tried same) =
    silent old new own (ap (λ (r : Region). r.keeper) is.others)
    (tried_steps (patch_events old.marked.bytes at news) made own tried (patch_steps old.marked.bytes at news) same)
call_steps seats old new own many (Deletes base stamp is stops made stamped tried same) =
    subst (KeeperSteps old.keeper new.keeper)
    (sym (ap (λ (l : List Event). filter is_by_keeper (word_steps l)) same
    ∙ ap (filter is_by_keeper) (steps_append made (delete_events old.marked.marks base is.chunk.length)
    ∙ (λ i. attempt_steps stops made tried (stop_steps old.marked.marks base is.chunk.length stops stamped) i
    ++ delete_steps old.marked.marks base is.chunk.length i))))
    (raised_steps old.keeper new.keeper is.keeper)
call_steps seats old new own many (Reclaims count is same) =
    subst (KeeperSteps old.keeper new.keeper)
    (ap (λ (z : ℕ). map TookWord (range_with_len 0 z)) (is.looked.raised.0 ∙ many)
    ∙ sym (ap (λ (l : List Event). filter is_by_keeper (word_steps l)) same ∙ reclaim_steps seats (least_number new.keeper.numbers) old.chunks))
    is.looked.steps
call_steps seats old new own many (UsesKeeper marked chunks keepers steps range) =
    subst (KeeperSteps old.keeper new.keeper) (sym (all_keepers own keepers)) steps
call_steps seats old new own many (Refuses is) =
    silent old new own (ap (λ (r : Region). r.keeper) (refusal_same old new own is)) (ap word_steps (refusal_silent old new own is))
call_steps seats old new own many (Keeps same none) =
    silent old new own (ap (λ (r : Region). r.keeper) same) (ap word_steps none)
