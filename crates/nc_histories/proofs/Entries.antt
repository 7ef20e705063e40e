-- The events of a call's log, as its proof goes over them.
use Rattle.std.proofs.Common.{◌≡◌, ℕ, ◌+◌, Bool, true, false, cond, List, [], ◌∷◌, ◌++◌, length, replicate, refl, ◌∙◌, sym, ap, append_assoc}
use Rattle.std.specs.List.{flat_map}
use Rattle.nc_decode.specs.declared.instruction.Mark.{Mark}
use Rattle.nc_vet.specs.Chunk.{MarkedChunk, Piece}
use Rattle.nc_region.specs.schedules.Events.{Event, Puts, Serializes, Retires}
use Rattle.nc_acts.specs.declared.acts.Act.{Act}
use Rattle.nc_acts.specs.declared.acts.Act.TheVariants.{MarkSpan, Bump}
use Rattle.nc_acts.specs.declared.acts.Entry.{Entry}
use Rattle.nc_acts.specs.declared.acts.Entry.TheVariants.{Did, Serialized}
use Rattle.nc_acts.specs.Acts.{puts_where, is_inside, is_start, is_marked_at, is_unmarked_at}
use Rattle.nc_acts.specs.Log.{only_acts}
use Rattle.nc_region.specs.Patch.{any_place, stands_there, log_of_instruction, log_of_patch}
use Rattle.nc_histories.specs.Calls.{Details, no_details, events_of_act, events_of_log, create_events, patch_events, delete_events}

-- the events that acts are, with no serialization among them
abbrev pub events_of : Details → List Act → List Event
events_of d acts = flat_map (events_of_act d) acts

-- the events of a log with no serialization are those of its acts
pub events_of_only_acts : (d : Details) (acts : List Act) → events_of_log d (only_acts acts) ≡ events_of d acts
events_of_only_acts d [] = refl
events_of_only_acts d (act ∷ acts) = ap (λ (z : List Event). events_of_act d act ++ z) (events_of_only_acts d acts)

-- the events of two logs are those of the one and then those of the other
pub log_append : (d : Details) (xs ys : List Entry) → events_of_log d (xs ++ ys) ≡ events_of_log d xs ++ events_of_log d ys
log_append d [] ys = refl
log_append d (Did act ∷ xs) ys =
    ap (λ (z : List Event). events_of_act d act ++ z) (log_append d xs ys)
    ∙ sym (append_assoc (events_of_act d act) (events_of_log d xs) (events_of_log d ys))
log_append d (Serialized ∷ xs) ys = ap (λ (z : List Event). Serializes ∷ z) (log_append d xs ys)

-- the events of acts and then a log are those of the acts and then those of the log
acts_then : (d : Details) (acts : List Act) (rest : List Entry)
    → events_of_log d (only_acts acts ++ rest) ≡ events_of d acts ++ events_of_log d rest
acts_then d acts rest =
    log_append d (only_acts acts) rest ∙ ap (λ (z : List Event). z ++ events_of_log d rest) (events_of_only_acts d acts)

-- the events of a creation, part by part
pub create_is : (v : MarkedChunk) → create_events v ≡ events_of (record no_details { marks = v.marks }) (puts_where is_inside v.base v.code)
    ++ (Serializes ∷ events_of (record no_details { marks = v.marks }) (MarkSpan v.base (length v.code) ∷ puts_where is_start v.base v.code))
create_is v =
    let d : Details = record no_details { marks = v.marks } in
    let first = events_of (record no_details { marks = v.marks }) (puts_where is_inside v.base v.code) in
    acts_then (record no_details { marks = v.marks }) (puts_where is_inside v.base v.code)
    (Serialized ∷ Did (MarkSpan v.base (length v.code)) ∷ only_acts (puts_where is_start v.base v.code))
    ∙ ap (λ (z : List Event). events_of (record no_details { marks = v.marks }) (puts_where is_inside v.base v.code)
    ++ (Serializes ∷ (events_of_act (record no_details { marks = v.marks }) (MarkSpan v.base (length v.code)) ++ z)))
    (events_of_only_acts (record no_details { marks = v.marks }) (puts_where is_start v.base v.code))

-- the events of a deletion, part by part
pub delete_is : (marks : List Mark) (base len : ℕ) → delete_events marks base len
    ≡ events_of (record no_details { base = base; len = len }) (puts_where (is_marked_at marks) base (replicate len 244))
    ++ (Serializes ∷ (events_of (record no_details { base = base; len = len }) (puts_where (is_unmarked_at marks) base (replicate len 244))
    ++ Retires base len ∷ []))
delete_is marks base len =
    acts_then (record no_details { base = base; len = len }) (puts_where (is_marked_at marks) base (replicate len 244))
    (Serialized ∷ (only_acts (puts_where (is_unmarked_at marks) base (replicate len 244)) ++ Did Bump ∷ []))
    ∙ ap (λ (z : List Event). events_of (record no_details { base = base; len = len })
    (puts_where (is_marked_at marks) base (replicate len 244)) ++ (Serializes ∷ z))
    (acts_then (record no_details { base = base; len = len }) (puts_where (is_unmarked_at marks) base (replicate len 244)) (Did Bump ∷ []))

-- the events of a deletion up to its stamp
abbrev pub stops_of : List Mark → ℕ → ℕ → List Event
stops_of marks base len =
    events_of (record no_details { base = base; len = len }) (puts_where (is_marked_at marks) base (replicate len 244))
    ++ (Serializes ∷ events_of (record no_details { base = base; len = len }) (puts_where (is_unmarked_at marks) base (replicate len 244)))

-- the events of a deletion are those up to its stamp, and the stamp
pub stops_then : (marks : List Mark) (base len : ℕ) → stops_of marks base len ++ Retires base len ∷ [] ≡ delete_events marks base len
stops_then marks base len =
    append_assoc (events_of (record no_details { base = base; len = len }) (puts_where (is_marked_at marks) base (replicate len 244)))
    (Serializes ∷ events_of (record no_details { base = base; len = len }) (puts_where (is_unmarked_at marks) base (replicate len 244)))
    (Retires base len ∷ [])
    ∙ sym (delete_is marks base len)

-- one instruction of a patch
abbrev pub instruction_events : ℕ → List ℕ → List Event
instruction_events at [] = []
instruction_events at (byte ∷ []) = Puts at byte ∷ []
instruction_events at (byte ∷ next ∷ rest) =
    Puts at 244 ∷ Serializes ∷ (events_of no_details (puts_where any_place (at + 1) (next ∷ rest)) ++ (Serializes ∷ Puts at byte ∷ []))

-- the events of all instructions of a patch
abbrev pub events_of_instructions : List ℕ → ℕ → List Piece → List Event
events_of_instructions text at [] = []
events_of_instructions text at (p ∷ rest) =
    cond (stands_there text at p.bytes) [] (instruction_events at p.bytes) ++ events_of_instructions text (at + length p.bytes) rest

-- the log of an instruction
instruction_is : (at : ℕ) (bytes : List ℕ) → events_of_log no_details (log_of_instruction at bytes) ≡ instruction_events at bytes
instruction_is at [] = refl
instruction_is at (byte ∷ []) = refl
instruction_is at (byte ∷ next ∷ rest) =
    ap (λ (z : List Event). Puts at 244 ∷ Serializes ∷ z)
    (acts_then no_details (puts_where any_place (at + 1) (next ∷ rest)) (Serialized ∷ Did (Act.Put at byte) ∷ []))

-- the events of an instruction's log, made or not, are its events
turn_is : (b : Bool) (at : ℕ) (bytes : List ℕ)
    → events_of_log no_details (cond b [] (log_of_instruction at bytes)) ≡ cond b [] (instruction_events at bytes)
turn_is true at bytes = refl
turn_is false at bytes = instruction_is at bytes

-- the events of a patch are those of its instructions
pub patch_is : (text : List ℕ) (at : ℕ) (news : List Piece) → patch_events text at news ≡ events_of_instructions text at news
patch_is text at [] = refl
patch_is text at (n ∷ ns) =
    log_append no_details (cond (stands_there text at n.bytes) [] (log_of_instruction at n.bytes))
    (log_of_patch text (at + length n.bytes) ns)
    ∙ (ap (λ (z : List Event). z ++ events_of_log no_details (log_of_patch text (at + length n.bytes) ns))
    (turn_is (stands_there text at n.bytes) at n.bytes)
    ∙ ap (λ (z : List Event). cond (stands_there text at n.bytes) [] (instruction_events at n.bytes) ++ z)
    (patch_is text (at + length n.bytes) ns))
