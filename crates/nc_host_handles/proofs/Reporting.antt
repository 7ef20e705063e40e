-- The elements of a buffer, read back, are what is pending.
use Rattle.std.proofs.Common.{◌≡◌, ℕ, zero, suc, ◌+◌, ◌<◌, Bool, true, false, cond, List, [], ◌∷◌, ◌++◌, map, length, drop, replicate, refl, ◌∙◌, sym, ap, subst}
use Rattle.std.specs.Prelude.{All, take, None}
use Rattle.std.specs.List.{range_with_len}
use Rattle.std.proofs.lemmas.List.{append-nil, append_assoc, take_at, length-map, map-append}
use Rattle.std.proofs.lemmas.List.Elements.{All-nil, All-cons, All-head, All-tail, All-append}
use Rattle.nc_decode.specs.declared.instruction.Mark.{Mark}
use Rattle.nc_text.specs.Places.{limit_of}
use Rattle.nc_vet.specs.Chunk.{MarkedChunk, Piece, IsValid}
use Rattle.nc_list.specs.declared.chunk.Chunk.{Chunk}
use Rattle.nc_region.specs.schedules.Events.{Event, Retires, Frees, Looks}
use Rattle.nc_acts.specs.declared.acts.Act.TheVariants.{Put, MarkSpan, Bump}
use Rattle.nc_acts.specs.declared.acts.Entry.{Entry}
use Rattle.nc_acts.specs.declared.acts.Entry.TheVariants.{Did, Serialized}
use Rattle.nc_acts.specs.Acts.{puts_where, is_inside, is_start, is_marked_at, is_unmarked_at}
use Rattle.nc_acts.specs.Log.{only_acts, log_of_create, log_of_delete}
use Rattle.nc_region.specs.Patch.{IsPatch, IsPatched, AreBytesOf, any_place, stands_there, log_of_instruction, log_of_patch}
use Rattle.nc_gens.specs.Seen.{PassState, least_number}
use Rattle.nc_region.specs.Quiet.{retired_spans}
use Rattle.nc_region.specs.Deletion.{freed, unmarkings}
use Rattle.nc_region.specs.Region.{IsCreated}
use Rattle.nc_histories.specs.Calls.{Details, no_details, span_from, reclaim_events, events_of_entry, events_of_log, delete_events}
use Rattle.nc_histories.specs.Histories.{NoneYet, Creates, Patches, Reclaims}
use Rattle.nc_histories.proofs.Offered.{log_append}
use Rattle.nc_host_acts.specs.declared.act.NcAct.{NcAct}
use Rattle.nc_host_acts.specs.Shown.{entry_of}
use Rattle.nc_host_handles.specs.Lent.{IsReported}
use Rattle.nc_host_handles.specs.RegionHandle.{RegionHandleState, HasBegunDeletion, HasEndedDeletion, HasReclaimed, meetings}
use Rattle.nc_host_handles.specs.Pending.{events_pending_by, events_pending, IsHandleCall, Changes, Begins, Ends, ReportsPending, IsLibrarys, DoesItself}

-- what is pending for some elements, and then for others
pub due_append : (v : MarkedChunk) (xs ys : List NcAct) → events_pending v (xs ++ ys) ≡ events_pending v xs ++ events_pending v ys
due_append v [] ys = refl
due_append v (x ∷ xs) ys =
    ap (λ (z : List Event). events_pending_by v x ++ z) (due_append v xs ys)
    ∙ sym (append_assoc (events_pending_by v x) (events_pending v xs) (events_pending v ys))

-- an entry is read as its events
abbrev IsRead : MarkedChunk → Details → Entry → Type 0
IsRead v d entry = events_pending_by v (entry_of entry) ≡ events_of_entry d entry

-- a log is read as its events
pub due_log : (v : MarkedChunk) (d : Details) (log : List Entry) → All (IsRead v d) log
    → events_pending v (map entry_of log) ≡ events_of_log d log
due_log v d [] all = refl
due_log v d (entry ∷ log) all =
    ap (λ (z : List Event). z ++ events_pending v (map entry_of log)) (All-head (IsRead v d) entry log all)
    ∙ ap (λ (z : List Event). events_of_entry d entry ++ z) (due_log v d log (All-tail (IsRead v d) entry log all))

-- each entry of some puts is read as its events
puts_all : (v : MarkedChunk) (d : Details) (chosen : ℕ → Bool) (at : ℕ) (bytes : List ℕ)
    → All (IsRead v d) (only_acts (puts_where chosen at bytes))
puts_all v d chosen at [] = All-nil (IsRead v d)
puts_all v d chosen at (byte ∷ bytes) = go (chosen at) (puts_all v d chosen (at + 1) bytes)
  where
    go : (b : Bool) → All (IsRead v d) (only_acts (puts_where chosen (at + 1) bytes))
        → All (IsRead v d) (only_acts (cond b (Put at byte ∷ puts_where chosen (at + 1) bytes) (puts_where chosen (at + 1) bytes)))
    go true all = All-cons (IsRead v d) (Did (Put at byte)) (only_acts (puts_where chosen (at + 1) bytes)) refl all
    go false all = all

-- each entry of a creation is read as its events
create_all : (v : MarkedChunk) → All (IsRead v (record no_details { marks = v.marks })) (log_of_create v.base v.code)
create_all v =
    All-append (IsRead v (record no_details { marks = v.marks })) (only_acts (puts_where is_inside v.base v.code))
    (Serialized ∷ Did (MarkSpan v.base (length v.code)) ∷ only_acts (puts_where is_start v.base v.code))
    (puts_all v (record no_details { marks = v.marks }) is_inside v.base v.code)
    (All-cons (IsRead v (record no_details { marks = v.marks })) Serialized
    (Did (MarkSpan v.base (length v.code)) ∷ only_acts (puts_where is_start v.base v.code)) refl
    (All-cons (IsRead v (record no_details { marks = v.marks })) (Did (MarkSpan v.base (length v.code)))
    (only_acts (puts_where is_start v.base v.code)) refl
    (puts_all v (record no_details { marks = v.marks }) is_start v.base v.code)))

-- an instruction of a patch
instruction_all : (v : MarkedChunk) (d : Details) (at : ℕ) (bytes : List ℕ) → All (IsRead v d) (log_of_instruction at bytes)
instruction_all v d at [] = All-nil (IsRead v d)
instruction_all v d at (byte ∷ []) = All-cons (IsRead v d) (Did (Put at byte)) [] refl (All-nil (IsRead v d))
instruction_all v d at (byte ∷ next ∷ rest) =
    All-cons (IsRead v d) (Did (Put at 244))
    (Serialized ∷ (only_acts (puts_where any_place (at + 1) (next ∷ rest)) ++ (Serialized ∷ Did (Put at byte) ∷ []))) refl
    (All-cons (IsRead v d) Serialized (only_acts (puts_where any_place (at + 1) (next ∷ rest)) ++ (Serialized ∷ Did (Put at byte) ∷ [])) refl
    (All-append (IsRead v d) (only_acts (puts_where any_place (at + 1) (next ∷ rest))) (Serialized ∷ Did (Put at byte) ∷ [])
    (puts_all v d any_place (at + 1) (next ∷ rest))
    (All-cons (IsRead v d) Serialized (Did (Put at byte) ∷ []) refl
    (All-cons (IsRead v d) (Did (Put at byte)) [] refl (All-nil (IsRead v d))))))

-- each entry of a patch is read as its events
patch_all : (v : MarkedChunk) (d : Details) (text : List ℕ) (at : ℕ) (news : List Piece) → All (IsRead v d) (log_of_patch text at news)
patch_all v d text at [] = All-nil (IsRead v d)
patch_all v d text at (p ∷ rest) =
    All-append (IsRead v d) (cond (stands_there text at p.bytes) [] (log_of_instruction at p.bytes))
    (log_of_patch text (at + length p.bytes) rest) (go (stands_there text at p.bytes)) (patch_all v d text (at + length p.bytes) rest)
  where
    go : (b : Bool) → All (IsRead v d) (cond b [] (log_of_instruction at p.bytes))
    go true = All-nil (IsRead v d)
    go false = instruction_all v d at p.bytes

-- a deletion up to its stamp
abbrev stops_of : List Mark → ℕ → ℕ → List Entry
stops_of marks base len =
    only_acts (puts_where (is_marked_at marks) base (replicate len 244))
    ++ (Serialized ∷ only_acts (puts_where (is_unmarked_at marks) base (replicate len 244)))

stops_then : (marks : List Mark) (base len : ℕ) → log_of_delete marks base len ≡ stops_of marks base len ++ Did Bump ∷ []
stops_then marks base len =
    sym (append_assoc (only_acts (puts_where (is_marked_at marks) base (replicate len 244)))
    (Serialized ∷ only_acts (puts_where (is_unmarked_at marks) base (replicate len 244))) (Did Bump ∷ []))

stops_all : (v : MarkedChunk) (d : Details) (marks : List Mark) (base len : ℕ) → All (IsRead v d) (stops_of marks base len)
stops_all v d marks base len =
    All-append (IsRead v d) (only_acts (puts_where (is_marked_at marks) base (replicate len 244)))
    (Serialized ∷ only_acts (puts_where (is_unmarked_at marks) base (replicate len 244)))
    (puts_all v d (is_marked_at marks) base (replicate len 244))
    (All-cons (IsRead v d) Serialized (only_acts (puts_where (is_unmarked_at marks) base (replicate len 244))) refl
    (puts_all v d (is_unmarked_at marks) base (replicate len 244)))

-- the log of a deletion is read as its events, but for the stamp
pub stops_due : (v : MarkedChunk) (marks : List Mark) (base len : ℕ)
    → events_pending v (map entry_of (log_of_delete marks base len)) ++ Retires base len ∷ [] ≡ delete_events marks base len
stops_due v marks base len =
    let read : events_pending v (map entry_of (log_of_delete marks base len))
    ≡ events_of_log (record no_details { base = base; len = len }) (stops_of marks base len) =
    ap (λ (z : List Entry). events_pending v (map entry_of z)) (stops_then marks base len)
    ∙ (ap (events_pending v) (map-append entry_of (stops_of marks base len) (Did Bump ∷ []))
    ∙ (due_append v (map entry_of (stops_of marks base len)) (entry_of (Did Bump) ∷ [])
    ∙ (append-nil (events_pending v (map entry_of (stops_of marks base len)))
    ∙ due_log v (record no_details { base = base; len = len }) (stops_of marks base len)
    (stops_all v (record no_details { base = base; len = len }) marks base len)))) in
    ap (λ (z : List Event). z ++ Retires base len ∷ []) read
    ∙ (sym (log_append (record no_details { base = base; len = len }) (stops_of marks base len) (Did Bump ∷ []))
    ∙ ap (events_of_log (record no_details { base = base; len = len })) (sym (stops_then marks base len)))

-- ---- what a call reported

-- the elements that a log's count covers are its entries
reported_front : (lent now : List NcAct) (count : ℕ) (log : List Entry) → 0 < length lent → IsReported lent now count log
    → take count now ≡ map entry_of log
reported_front lent now count log some is =
    let both = is.lent some in
    ap (λ (z : List NcAct). take count z) both.1
    ∙ take_at (map entry_of log) (drop (length (map entry_of log)) lent) count (length-map log entry_of ∙ sym both.0)

-- what is read is pending
reported_due : (old new : RegionHandleState) (v : MarkedChunk) (lent now : List NcAct) (count : ℕ) (log : List Entry) → IsReported lent now count log
    → ((seats : ℕ) → IsHandleCall seats old new (events_pending v (map entry_of log))) → ReportsPending old new v lent now count
reported_due old new v lent now count log reported call =
    record {
      pending = λ seats some. subst (λ (z : List NcAct). IsHandleCall seats old new (events_pending v z)) (sym (reported_front lent now count log some reported))
          (call seats);
    }

-- a call that leaves no deletion under way
pub still_none : (old new : RegionHandleState) → new ≡ record old { region = new.region } → old.begun ≡ None → new.begun ≡ None
still_none old new others none = ap (λ (h : RegionHandleState). h.begun) others ∙ none

-- the entries reported for a creation are its pending events
pub loads : (old new : RegionHandleState) (v : MarkedChunk) (lent now : List NcAct) (count : ℕ) → IsValid v
    → v.limit ≡ limit_of old.region.marked.bytes → IsCreated old.region new.region v → old.begun ≡ None
    → new ≡ record old { region = new.region } → IsReported lent now count (log_of_create v.base v.code) → ReportsPending old new v lent now count
loads old new v lent now count valid limit is none others reported =
    reported_due old new v lent now count (log_of_create v.base v.code) reported
    (λ seats. Changes none (still_none old new others none)
    (Creates v valid limit is [] NoneYet (due_log v (record no_details { marks = v.marks }) (log_of_create v.base v.code) (create_all v))))

-- the entries reported for a patch are its pending events
pub patches : (old new : RegionHandleState) (at : ℕ) (bytes : List ℕ) (lent now : List NcAct) (count : ℕ) (v : MarkedChunk)
    → IsPatch old.region at bytes → IsPatched old.region new.region at bytes → old.begun ≡ None
    → new ≡ record old { region = new.region }
    → ((news : List Piece) → AreBytesOf bytes news → IsReported lent now count (log_of_patch old.region.marked.bytes at news))
    → ReportsPending old new v lent now count
patches old new at bytes lent now count v lawful is none others reported =
    let run = lawful.1.2.0.run in
    reported_due old new v lent now count (log_of_patch old.region.marked.bytes at run.news) (reported run.news run.bytes)
    (λ seats. Changes none (still_none old new others none)
    (Patches at bytes run.news lawful run.bytes is [] NoneYet
    (due_log v no_details (log_of_patch old.region.marked.bytes at run.news)
    (patch_all v no_details old.region.marked.bytes at run.news))))

-- the entries reported for the first call of a deletion are its pending events
pub begins : (old new : RegionHandleState) (base : ℕ) (c : Chunk) (lent now : List NcAct) (count : ℕ) (v : MarkedChunk) → HasBegunDeletion old new base c
    → IsReported lent now count (log_of_delete old.region.marked.marks base c.length) → ReportsPending old new v lent now count
begins old new base c lent now count v begun reported =
    reported_due old new v lent now count (log_of_delete old.region.marked.marks base c.length) reported
    (λ seats. Begins c (subst (λ (b : ℕ). HasBegunDeletion old new b c) (sym begun.live.2) begun)
    (ap (λ (b : ℕ). events_pending v (map entry_of (log_of_delete old.region.marked.marks base c.length)) ++ Retires b c.length ∷ []) begun.live.2
    ∙ (stops_due v old.region.marked.marks base c.length
    ∙ ap (λ (b : ℕ). delete_events old.region.marked.marks b c.length) (sym begun.live.2))))

-- ---- what the library does itself

-- the stamp of a deletion is drawn by the library itself
pub ends : (seats : ℕ) (old new : RegionHandleState) (stamp : ℕ) → HasEndedDeletion old new stamp → DoesItself seats old new
ends seats old new stamp is =
    record {
      own = Retires is.chunk.base is.chunk.length ∷ [];
      librarys = All-cons IsLibrarys (Retires is.chunk.base is.chunk.length) [] tt (All-nil IsLibrarys);
      call = Ends stamp is refl;
    }

-- all meetings of passes are the library's
meetings_librarys : (passes : List PassState) → All IsLibrarys (meetings passes)
meetings_librarys [] = All-nil IsLibrarys
meetings_librarys (p ∷ rest) =
    All-cons IsLibrarys (Looks p.seat) (Looks p.seat ∷ meetings rest) tt
    (All-cons IsLibrarys (Looks p.seat) (meetings rest) tt (meetings_librarys rest))

-- all looks are the library's
looks_librarys : (from n : ℕ) → All IsLibrarys (map Looks (range_with_len from n))
looks_librarys from zero = All-nil IsLibrarys
looks_librarys from (suc n) = All-cons IsLibrarys (Looks from) (map Looks (range_with_len (from + 1) n)) tt (looks_librarys (from + 1) n)

-- all unmarkings are the library's
frees_librarys : (d : Details) (chunks : List Chunk) → All IsLibrarys (events_of_log d (only_acts (unmarkings chunks)))
frees_librarys d [] = All-nil IsLibrarys
frees_librarys d (c ∷ chunks) = All-cons IsLibrarys (Frees (span_from d.spans c.base)) _ tt (frees_librarys d chunks)

-- a reclaim: the keeper meets the passes not given out, and then looks and frees
pub reclaims : (seats : ℕ) (old new : RegionHandleState) (count : ℕ) → HasReclaimed old new count
    → (met : RegionHandleState) × DoesItself seats old met × DoesItself seats met new
reclaims seats old new count is = (
  record old { region = is.met },
  record { own = meetings old.passes; librarys = meetings_librarys old.passes; call = Changes is.none is.none (is.meets seats) },
  record {
    own = reclaim_events seats (least_number new.region.keeper.numbers) is.met.chunks;
    librarys = All-append IsLibrarys (map Looks (range_with_len 0 seats))
        (events_of_log (record no_details { seats = seats; spans = retired_spans is.met.chunks })
        (only_acts (unmarkings (freed (least_number new.region.keeper.numbers) is.met.chunks))))
        (looks_librarys 0 seats)
        (frees_librarys (record no_details { seats = seats; spans = retired_spans is.met.chunks })
        (freed (least_number new.region.keeper.numbers) is.met.chunks));
    call = Changes is.none (ap (λ (h : RegionHandleState). h.begun) is.others ∙ is.none) (Reclaims count is.reclaimed refl);
  },
)
