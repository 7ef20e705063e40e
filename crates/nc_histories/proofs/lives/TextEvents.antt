-- Events that change only the text, and which of them the calls are.
use Rattle.std.proofs.Common.{◌≡◌, ℕ, Bool, List, [], ◌∷◌, ◌++◌, refl, ◌∙◌, sym, ap, subst}
use Rattle.std.proofs.Common.{append-nil, append_assoc, replicate}
use Rattle.std.specs.Prelude.{⊤}
use Rattle.nc_decode.specs.declared.instruction.Mark.{Mark}
use Rattle.nc_vet.specs.Chunk.{MarkedChunk, Piece}
use Rattle.nc_region.specs.schedules.World.{World}
use Rattle.nc_region.specs.schedules.Events.{Event, Puts, Serializes, Marks, Retires, after, world_after}
use Rattle.nc_acts.specs.Acts.{puts_where, is_inside, is_start, is_marked_at, is_unmarked_at}
use Rattle.nc_histories.specs.Interleaving.{writers, ThreadsMay}
use Rattle.nc_histories.specs.Calls.{Details, no_details, create_events, patch_events, delete_events}
use Rattle.nc_histories.proofs.Entries.{events_of, create_is, delete_is, events_of_instructions, patch_is}
use Rattle.nc_histories.proofs.Turning.{puts_keep, patch_keeps}

-- ---- events that change only the text

-- each of the events is a put, a serialization or a marking
abbrev pub AreOfText : List Event → Type 0
AreOfText [] = ⊤
AreOfText (Puts at byte ∷ events) = AreOfText events
AreOfText (Serializes ∷ events) = AreOfText events
AreOfText (Marks at marks ∷ events) = AreOfText events
AreOfText (event ∷ events) = ⊥

-- events that only change the text are all the writer's
pub own_of_text : (events : List Event) → AreOfText events → writers events ≡ events
own_of_text [] t = refl
own_of_text (Puts at byte ∷ events) t = ap (λ (z : List Event). Puts at byte ∷ z) (own_of_text events t)
own_of_text (Serializes ∷ events) t = ap (λ (z : List Event). Serializes ∷ z) (own_of_text events t)
own_of_text (Marks at marks ∷ events) t = ap (λ (z : List Event). Marks at marks ∷ z) (own_of_text events t)
own_of_text (event ∷ events) t = absurd t

-- events that only change the text are all the writer's, before others
pub own_before : (xs ys : List Event) → AreOfText xs → writers (xs ++ ys) ≡ xs ++ writers ys
own_before [] ys t = refl
own_before (Puts at byte ∷ xs) ys t = ap (λ (z : List Event). Puts at byte ∷ z) (own_before xs ys t)
own_before (Serializes ∷ xs) ys t = ap (λ (z : List Event). Serializes ∷ z) (own_before xs ys t)
own_before (Marks at marks ∷ xs) ys t = ap (λ (z : List Event). Marks at marks ∷ z) (own_before xs ys t)
own_before (event ∷ xs) ys t = absurd t

-- events that only change the text ask nothing of threads, before others
pub may_before : (w : World) (xs ys : List Event) → AreOfText xs → ThreadsMay (world_after w xs) ys → ThreadsMay w (xs ++ ys)
may_before w [] ys t may = may
may_before w (Puts at byte ∷ xs) ys t may = ((λ e. tt), may_before (after w (Puts at byte)) xs ys t may)
may_before w (Serializes ∷ xs) ys t may = ((λ e. tt), may_before (after w Serializes) xs ys t may)
may_before w (Marks at marks ∷ xs) ys t may = ((λ e. tt), may_before (after w (Marks at marks)) xs ys t may)
may_before w (event ∷ xs) ys t may = absurd t

-- events that only change the text ask nothing of threads
pub may_of_text : (w : World) (events : List Event) → AreOfText events → ThreadsMay w events
may_of_text w events t = subst (ThreadsMay w) (append-nil events) (may_before w events [] t tt)

-- ---- the events of calls

-- puts before events that change only the text
text_puts : (d : Details) (chosen : ℕ → Bool) (at : ℕ) (bytes : List ℕ) (more : List Event) → AreOfText more
    → AreOfText (events_of d (puts_where chosen at bytes) ++ more)
text_puts = puts_keep AreOfText (λ at byte more t. t) (λ more t. t)

-- the events of puts only change the text
pub all_puts : (d : Details) (chosen : ℕ → Bool) (at : ℕ) (bytes : List ℕ) → AreOfText (events_of d (puts_where chosen at bytes))
all_puts d chosen at bytes = subst AreOfText (append-nil (events_of d (puts_where chosen at bytes))) (text_puts d chosen at bytes [] tt)

-- the events of a creation up to its serialization
abbrev pub create_first : MarkedChunk → List Event
create_first v = events_of (record no_details { marks = v.marks }) (puts_where is_inside v.base v.code)

-- the events of a creation from its serialization on
abbrev pub create_second : MarkedChunk → List Event
create_second v = Serializes ∷ Marks v.base v.marks ∷ events_of (record no_details { marks = v.marks }) (puts_where is_start v.base v.code)

-- the events of a creation are those up to its serialization and those from it on
pub create_parts : (v : MarkedChunk) → create_events v ≡ create_first v ++ create_second v
create_parts v = create_is v

-- the events of a creation up to its serialization only change the text
pub create_first_text : (v : MarkedChunk) → AreOfText (create_first v)
create_first_text v = all_puts (record no_details { marks = v.marks }) is_inside v.base v.code

-- the events of a creation from its serialization on only change the text
pub create_second_text : (v : MarkedChunk) → AreOfText (create_second v)
create_second_text v = all_puts (record no_details { marks = v.marks }) is_start v.base v.code

-- the events of all instructions of a patch only change the text
pub instructions_text : (text : List ℕ) (at : ℕ) (news : List Piece) → AreOfText (events_of_instructions text at news)
instructions_text = patch_keeps AreOfText (λ at byte more t. t) (λ more t. t) tt

-- the events of a patch only change the text
pub patch_text : (text : List ℕ) (at : ℕ) (news : List Piece) → AreOfText (patch_events text at news)
patch_text text at news = subst AreOfText (sym (patch_is text at news)) (instructions_text text at news)

-- the events of a deletion before its stamp is drawn
abbrev pub delete_front : List Mark → ℕ → ℕ → List Event
delete_front marks base len =
    events_of (record no_details { base = base; len = len }) (puts_where (is_marked_at marks) base (replicate len 244))
    ++ (Serializes ∷ events_of (record no_details { base = base; len = len }) (puts_where (is_unmarked_at marks) base (replicate len 244)))

-- the events of a deletion are those before its stamp is drawn, and the retiring
pub delete_parts : (marks : List Mark) (base len : ℕ) → delete_events marks base len ≡ delete_front marks base len ++ Retires base len ∷ []
delete_parts marks base len =
    delete_is marks base len
    ∙ sym (append_assoc (events_of (record no_details { base = base; len = len }) (puts_where (is_marked_at marks) base (replicate len 244)))
    (Serializes ∷ events_of (record no_details { base = base; len = len }) (puts_where (is_unmarked_at marks) base (replicate len 244)))
    (Retires base len ∷ []))

-- the events of a deletion before its stamp is drawn only change the text
pub delete_front_text : (marks : List Mark) (base len : ℕ) → AreOfText (delete_front marks base len)
delete_front_text marks base len =
    text_puts (record no_details { base = base; len = len }) (is_marked_at marks) base (replicate len 244)
    (Serializes ∷ events_of (record no_details { base = base; len = len }) (puts_where (is_unmarked_at marks) base (replicate len 244)))
    (all_puts (record no_details { base = base; len = len }) (is_unmarked_at marks) base (replicate len 244))
