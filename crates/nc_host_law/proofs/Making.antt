-- A host makes all events of a creation and of a patch, those of a deletion before its stamp, and all that it reads in a buffer.
use Rattle.std.proofs.Common.{◌≡◌, ℕ, ◌+◌, ◌-◌, ◌/◌, ◌%◌, ◌==◌, take, drop, Bool, true, false, cond, List, [], ◌∷◌, ◌++◌, length, replicate, ◌∙◌, sym, subst, append_assoc}
use Rattle.std.specs.Prelude.{All}
use Rattle.std.proofs.lemmas.List.{append_cancel_right}
use Rattle.std.proofs.lemmas.List.Elements.{All-nil, All-cons, All-append, All-weaker}
use Rattle.nc_decode.specs.declared.instruction.Mark.{Mark}
use Rattle.nc_vet.specs.Chunk.{MarkedChunk, Piece}
use Rattle.nc_region.specs.schedules.Events.{Event, Steps, Enters, Exits, Takes, Sees, Stores, Leaves, Puts, Serializes, Marks, Bumps, Retires, Frees}
use Rattle.nc_region.specs.schedules.Events.{Looks}
use Rattle.nc_histories.specs.Interleaving.{IsNoLook}
use Rattle.nc_acts.specs.declared.acts.Act.TheVariants.{Put}
use Rattle.nc_acts.specs.Acts.{puts_where, is_inside, is_start, is_marked_at, is_unmarked_at}
use Rattle.nc_region.specs.Patch.{any_place, stands_there}
use Rattle.nc_histories.specs.Calls.{Details, no_details, create_events, patch_events, delete_events}
use Rattle.nc_histories.proofs.Offered.{events_of, create_is, stops_of, stops_then, instruction_events, events_of_instructions, patch_is}
use Rattle.nc_host_acts.specs.declared.act.NcAct.{NcAct}
use Rattle.nc_host_handles.specs.Pending.{puts_pending, events_pending_by, events_pending}
use Rattle.nc_host_law.specs.Hosts.{IsMadeByHost}
use Rattle.nc_host_law.proofs.Looked.{all_back}

-- a host makes no looks
pub by_host_look_not : (events : List Event) → All IsMadeByHost events → All IsNoLook events
by_host_look_not events all = All-weaker IsMadeByHost IsNoLook no_look events all
  where
    no_look : (event : Event) → IsMadeByHost event → IsNoLook event
    no_look (Puts at byte) is = tt
    no_look Serializes is = tt
    no_look (Steps k next) is = tt
    no_look (Enters k at) is = tt
    no_look (Exits k) is = tt
    no_look (Takes k) is = tt
    no_look (Sees k) is = tt
    no_look (Stores k) is = tt
    no_look (Leaves k) is = tt
    no_look (Marks at marks) is = tt
    no_look Bumps is = tt
    no_look (Retires base len) is = tt
    no_look (Frees span) is = tt
    no_look (Looks k) is = absurd is

-- a host makes puts at chosen places
puts_by_host : (d : Details) (chosen : ℕ → Bool) (at : ℕ) (bytes : List ℕ) → All IsMadeByHost (events_of d (puts_where chosen at bytes))
puts_by_host d chosen at [] = All-nil IsMadeByHost
puts_by_host d chosen at (byte ∷ rest) = go (chosen at) (puts_by_host d chosen (at + 1) rest)
  where
    go : (b : Bool) → All IsMadeByHost (events_of d (puts_where chosen (at + 1) rest))
        → All IsMadeByHost (events_of d (cond b (Put at byte ∷ puts_where chosen (at + 1) rest) (puts_where chosen (at + 1) rest)))
    go true all = All-cons IsMadeByHost (Puts at byte) (events_of d (puts_where chosen (at + 1) rest)) tt all
    go false all = all

-- a host makes puts, a serialization and what it makes then
puts_then : (d : Details) (chosen : ℕ → Bool) (at : ℕ) (bytes : List ℕ) (more : List Event) → All IsMadeByHost more
    → All IsMadeByHost (events_of d (puts_where chosen at bytes) ++ (Serializes ∷ more))
puts_then d chosen at bytes more all =
    All-append IsMadeByHost (events_of d (puts_where chosen at bytes)) (Serializes ∷ more) (puts_by_host d chosen at bytes)
    (All-cons IsMadeByHost Serializes more tt all)

-- a host makes the events of a creation
pub create_by_host : (v : MarkedChunk) → All IsMadeByHost (create_events v)
create_by_host v =
    let d : Details = record { marks = v.marks; base = 0; len = 0; seats = 0; spans = [] } in
    subst (All IsMadeByHost) (sym (create_is v))
    (puts_then d is_inside v.base v.code
    (Marks v.base v.marks ∷ events_of (record { marks = v.marks; base = 0; len = 0; seats = 0; spans = [] })
    (puts_where is_start v.base v.code))
    (All-cons IsMadeByHost (Marks v.base v.marks) (events_of (record { marks = v.marks; base = 0; len = 0; seats = 0; spans = [] })
    (puts_where is_start v.base v.code)) tt (puts_by_host d is_start v.base v.code)))

-- a host makes the events of an instruction of a patch
instruction_by_host : (at : ℕ) (bytes : List ℕ) → All IsMadeByHost (instruction_events at bytes)
instruction_by_host at [] = All-nil IsMadeByHost
instruction_by_host at (byte ∷ []) = All-cons IsMadeByHost (Puts at byte) [] tt (All-nil IsMadeByHost)
instruction_by_host at (byte ∷ next ∷ rest) =
    let further : List Event = events_of no_details (puts_where any_place (at + 1) (next ∷ rest)) in
    All-cons IsMadeByHost (Puts at 244) (Serializes ∷ (further ++ (Serializes ∷ Puts at byte ∷ []))) tt
    (All-cons IsMadeByHost Serializes (further ++ (Serializes ∷ Puts at byte ∷ [])) tt
    (puts_then no_details any_place (at + 1) (next ∷ rest) (Puts at byte ∷ [])
    (All-cons IsMadeByHost (Puts at byte) [] tt (All-nil IsMadeByHost))))

-- a host makes the events of the instructions of a patch
instructions_by_host : (text : List ℕ) (at : ℕ) (news : List Piece) → All IsMadeByHost (events_of_instructions text at news)
instructions_by_host text at [] = All-nil IsMadeByHost
instructions_by_host text at (n ∷ ns) =
    All-append IsMadeByHost (cond (stands_there text at n.bytes) [] (instruction_events at n.bytes))
    (events_of_instructions text (at + length n.bytes) ns)
    (go (stands_there text at n.bytes)) (instructions_by_host text (at + length n.bytes) ns)
  where
    go : (b : Bool) → All IsMadeByHost (cond b [] (instruction_events at n.bytes))
    go true = All-nil IsMadeByHost
    go false = instruction_by_host at n.bytes

-- a host makes the events of a patch
pub patch_by_host : (text : List ℕ) (at : ℕ) (news : List Piece) → All IsMadeByHost (patch_events text at news)
patch_by_host text at news = subst (All IsMadeByHost) (sym (patch_is text at news)) (instructions_by_host text at news)

-- a host makes the events that are left of a deletion before its retiring
pub rest_by_host : (marks : List Mark) (base len : ℕ) (first rest : List Event)
    → first ++ (rest ++ Retires base len ∷ []) ≡ delete_events marks base len → All IsMadeByHost rest
rest_by_host marks base len first rest is =
    let d : Details = record { marks = []; base = base; len = len; seats = 0; spans = [] } in
    let stops : All IsMadeByHost (stops_of marks base len) =
    puts_then d (is_marked_at marks) base (replicate len 244) _ (puts_by_host d (is_unmarked_at marks) base (replicate len 244)) in
    let same : first ++ rest ≡ stops_of marks base len =
    append_cancel_right (first ++ rest) (stops_of marks base len) (Retires base len ∷ [])
    (append_assoc first rest (Retires base len ∷ []) ∙ (is ∙ sym (stops_then marks base len))) in
    all_back IsMadeByHost first rest (subst (All IsMadeByHost) (sym same) stops)

-- ---- what it reads in a buffer

-- a host makes one or the other
either_by_host : (b : Bool) (xs ys : List Event) → All IsMadeByHost xs → All IsMadeByHost ys → All IsMadeByHost (cond b xs ys)
either_by_host true xs ys one other = one
either_by_host false xs ys one other = other

-- a host makes the stores of a run
run_by_host : (at bits : ℕ) (bytes : List ℕ) → All IsMadeByHost (puts_pending at bits bytes)
run_by_host at bits [] = All-nil IsMadeByHost
run_by_host at bits (byte ∷ rest) =
    either_by_host (bits % 2 == 1) (Puts at byte ∷ puts_pending (at + 1) (bits / 2) rest) (puts_pending (at + 1) (bits / 2) rest)
    (All-cons IsMadeByHost (Puts at byte) (puts_pending (at + 1) (bits / 2) rest) tt (run_by_host (at + 1) (bits / 2) rest))
    (run_by_host (at + 1) (bits / 2) rest)

-- a host makes what an element of a buffer is
element_by_host : (v : MarkedChunk) (a : NcAct) → All IsMadeByHost (events_pending_by v a)
element_by_host v a =
    either_by_host (a.kind == 1) _ _ (All-cons IsMadeByHost (Puts a.at a.value) [] tt (All-nil IsMadeByHost))
    (either_by_host (a.kind == 2) _ _ (All-cons IsMadeByHost (Marks a.at v.marks) [] tt (All-nil IsMadeByHost))
    (either_by_host (a.kind == 6) _ _ (All-cons IsMadeByHost Serializes [] tt (All-nil IsMadeByHost))
    (either_by_host (a.kind == 7) _ _ (run_by_host a.at a.value (take 32 (drop (a.at - v.base) v.code)))
    (either_by_host (a.kind == 8) _ _ (run_by_host a.at a.value (replicate 32 244)) (All-nil IsMadeByHost)))))

-- a host makes what the elements of a buffer are
pub buffer_by_host : (v : MarkedChunk) (acts : List NcAct) → All IsMadeByHost (events_pending v acts)
buffer_by_host v [] = All-nil IsMadeByHost
buffer_by_host v (a ∷ acts) =
    All-append IsMadeByHost (events_pending_by v a) (events_pending v acts) (element_by_host v a) (buffer_by_host v acts)
