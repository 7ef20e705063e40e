-- Runs, read back, are what is pending.
use Rattle.std.proofs.Common.{◌≡◌, ℕ, zero, suc, ◌+◌, ◌-◌, ◌/◌, ◌%◌, ◌==◌, Bool, true, false, cond, List, [], ◌∷◌, ◌++◌, map, length, drop}
use Rattle.std.proofs.Common.{replicate, refl, ◌∙◌, sym, ap}
use Rattle.std.specs.Prelude.{All, take}
use Rattle.std.proofs.lemmas.List.{append-nil, append_assoc, take_at, length-map, map-append}
use Rattle.std.proofs.lemmas.List.Elements.{All-nil, All-cons, All-head, All-tail, All-append}
use Rattle.nc_decode.specs.declared.instruction.Mark.{Mark}
use Rattle.nc_vet.specs.Chunk.{MarkedChunk}
use Rattle.nc_region.specs.schedules.Events.{Event, Puts, Retires}
use Rattle.nc_acts.specs.declared.acts.Act.TheVariants.{Put, MarkSpan, Bump}
use Rattle.nc_acts.specs.declared.acts.Entry.{Entry}
use Rattle.nc_acts.specs.declared.acts.Entry.TheVariants.{Did, Serialized}
use Rattle.nc_acts.specs.Acts.{is_inside, is_start, is_marked_at, is_unmarked_at}
use Rattle.nc_acts.specs.Log.{only_acts, log_of_create, log_of_delete}
use Rattle.nc_histories.specs.Calls.{Details, no_details, events_of_log, create_events, delete_events}
use Rattle.nc_histories.proofs.Offered.{log_append}
use Rattle.nc_host_acts.specs.declared.act.NcAct.{NcAct}
use Rattle.nc_host_acts.specs.Runs.{Run, Single, PutRun, StopRun, run_of, puts_by_bits, entries_of, entries_in, bits_at, runs_where, runs_of_create}
use Rattle.nc_host_acts.specs.Runs.{runs_of_delete, HasRuns}
use Rattle.nc_host_acts.proofs.Offered.{entries_append}
use Rattle.nc_host_handles.specs.Pending.{puts_pending, events_pending_by, events_pending}
use Rattle.nc_host_handles.proofs.Reporting.{due_append}

-- the puts of a run
bits_read : (d : Details) (bytes : List ℕ) (at bits : ℕ) → puts_pending at bits bytes ≡ events_of_log d (only_acts (puts_by_bits at bits bytes))
bits_read d [] at bits = refl
bits_read d (byte ∷ rest) at bits = go (bits % 2 == 1) (bits_read d rest (at + 1) (bits / 2))
  where
    go : (b : Bool) → puts_pending (at + 1) (bits / 2) rest ≡ events_of_log d (only_acts (puts_by_bits (at + 1) (bits / 2) rest))
        → cond b (Puts at byte ∷ puts_pending (at + 1) (bits / 2) rest) (puts_pending (at + 1) (bits / 2) rest)
        ≡ events_of_log d (only_acts (cond b (Put at byte ∷ puts_by_bits (at + 1) (bits / 2) rest) (puts_by_bits (at + 1) (bits / 2) rest)))
    go true same = ap (λ (z : List Event). Puts at byte ∷ z) same
    go false same = same

-- a run is read as its events
abbrev IsRunRead : MarkedChunk → Details → Run → Type 0
IsRunRead v d run = events_pending_by v (run_of run) ≡ events_of_log d (entries_of v.base v.code run)

-- runs are read as their events
runs_read : (v : MarkedChunk) (d : Details) (runs : List Run) → All (IsRunRead v d) runs
    → events_pending v (map run_of runs) ≡ events_of_log d (entries_in v.base v.code runs)
runs_read v d [] all = refl
runs_read v d (run ∷ runs) all =
    ap (λ (z : List Event). z ++ events_pending v (map run_of runs)) (All-head (IsRunRead v d) run runs all)
    ∙ (ap (λ (z : List Event). events_of_log d (entries_of v.base v.code run) ++ z)
    (runs_read v d runs (All-tail (IsRunRead v d) run runs all))
    ∙ sym (log_append d (entries_of v.base v.code run) (entries_in v.base v.code runs)))

-- runs of the chunk's bytes
put_runs : (v : MarkedChunk) (d : Details) (chosen : ℕ → Bool) (n at : ℕ) → All (IsRunRead v d) (runs_where PutRun chosen at n)
put_runs v d chosen zero at = All-nil (IsRunRead v d)
put_runs v d chosen (suc n) at =
    All-cons (IsRunRead v d) (PutRun at (bits_at chosen at)) (runs_where PutRun chosen (at + 32) n)
    (bits_read d (take 32 (drop (at - v.base) v.code)) at (bits_at chosen at)) (put_runs v d chosen n (at + 32))

-- runs of stops are read as their events
stop_runs : (v : MarkedChunk) (d : Details) (chosen : ℕ → Bool) (n at : ℕ) → All (IsRunRead v d) (runs_where StopRun chosen at n)
stop_runs v d chosen zero at = All-nil (IsRunRead v d)
stop_runs v d chosen (suc n) at =
    All-cons (IsRunRead v d) (StopRun at (bits_at chosen at)) (runs_where StopRun chosen (at + 32) n)
    (bits_read d (replicate 32 244) at (bits_at chosen at)) (stop_runs v d chosen n (at + 32))

-- the elements that a call counts
runs_front : (lent now : List NcAct) (count base : ℕ) (code : List ℕ) (runs : List Run) (log : List Entry)
    → HasRuns lent now count base code runs log → take count now ≡ map run_of runs
runs_front lent now count base code runs log is =
    ap (λ (z : List NcAct). take count z) is.buffer
    ∙ take_at (map run_of runs) (drop (length (map run_of runs)) lent) count (length-map runs run_of ∙ sym is.counted)

-- the runs of a creation are read as its events
pub create_runs_due : (v : MarkedChunk) (lent now : List NcAct) (count : ℕ)
    → HasRuns lent now count v.base v.code (runs_of_create v.base v.code) (log_of_create v.base v.code)
    → events_pending v (take count now) ≡ create_events v
create_runs_due v lent now count is =
    ap (events_pending v) (runs_front lent now count v.base v.code (runs_of_create v.base v.code) (log_of_create v.base v.code) is)
    ∙ (runs_read v (record no_details { marks = v.marks }) (runs_of_create v.base v.code)
    (All-append (IsRunRead v (record no_details { marks = v.marks })) (runs_where PutRun is_inside v.base (length v.code / 32))
    (Single Serialized ∷ Single (Did (MarkSpan v.base (length v.code))) ∷ runs_where PutRun is_start v.base (length v.code / 32))
    (put_runs v (record no_details { marks = v.marks }) is_inside (length v.code / 32) v.base)
    (All-cons (IsRunRead v (record no_details { marks = v.marks })) (Single Serialized)
    (Single (Did (MarkSpan v.base (length v.code))) ∷ runs_where PutRun is_start v.base (length v.code / 32)) refl
    (All-cons (IsRunRead v (record no_details { marks = v.marks })) (Single (Did (MarkSpan v.base (length v.code))))
    (runs_where PutRun is_start v.base (length v.code / 32)) refl
    (put_runs v (record no_details { marks = v.marks }) is_start (length v.code / 32) v.base))))
    ∙ ap (events_of_log (record no_details { marks = v.marks })) is.entries)

-- the runs of a deletion up to its stamp
abbrev stops_in_runs : List Mark → ℕ → ℕ → List Run
stops_in_runs marks base len =
    runs_where StopRun (is_marked_at marks) base (len / 32)
    ++ (Single Serialized ∷ runs_where StopRun (is_unmarked_at marks) base (len / 32))

runs_then : (marks : List Mark) (base len : ℕ) → runs_of_delete marks base len ≡ stops_in_runs marks base len ++ Single (Did Bump) ∷ []
runs_then marks base len =
    sym (append_assoc (runs_where StopRun (is_marked_at marks) base (len / 32))
    (Single Serialized ∷ runs_where StopRun (is_unmarked_at marks) base (len / 32)) (Single (Did Bump) ∷ []))

-- stops don't depend on the chunk
stops_entries : (base other : ℕ) (code bytes : List ℕ) (chosen : ℕ → Bool) (n at : ℕ)
    → entries_in base code (runs_where StopRun chosen at n) ≡ entries_in other bytes (runs_where StopRun chosen at n)
stops_entries base other code bytes chosen zero at = refl
stops_entries base other code bytes chosen (suc n) at =
    ap (λ (z : List Entry). entries_of base code (StopRun at (bits_at chosen at)) ++ z)
    (stops_entries base other code bytes chosen n (at + 32))

runs_entries : (marks : List Mark) (base len other : ℕ) (code bytes : List ℕ)
    → entries_in base code (stops_in_runs marks base len) ≡ entries_in other bytes (stops_in_runs marks base len)
runs_entries marks base len other code bytes =
    entries_append base code (runs_where StopRun (is_marked_at marks) base (len / 32))
    (Single Serialized ∷ runs_where StopRun (is_unmarked_at marks) base (len / 32))
    ∙ (ap (λ (z : List Entry). z ++ (Serialized ∷ entries_in base code (runs_where StopRun (is_unmarked_at marks) base (len / 32))))
    (stops_entries base other code bytes (is_marked_at marks) (len / 32) base)
    ∙ (ap (λ (z : List Entry). entries_in other bytes (runs_where StopRun (is_marked_at marks) base (len / 32)) ++ (Serialized ∷ z))
    (stops_entries base other code bytes (is_unmarked_at marks) (len / 32) base)
    ∙ sym (entries_append other bytes (runs_where StopRun (is_marked_at marks) base (len / 32))
    (Single Serialized ∷ runs_where StopRun (is_unmarked_at marks) base (len / 32)))))

-- the runs of a deletion are read as its events, but for the stamp
pub delete_runs_due : (v : MarkedChunk) (marks : List Mark) (base len : ℕ) (code : List ℕ) (lent now : List NcAct) (count : ℕ)
    → HasRuns lent now count base code (runs_of_delete marks base len) (log_of_delete marks base len)
    → events_pending v (take count now) ++ Retires base len ∷ [] ≡ delete_events marks base len
delete_runs_due v marks base len code lent now count is =
    let read : events_pending v (take count now)
    ≡ events_of_log (record no_details { base = base; len = len }) (entries_in v.base v.code (stops_in_runs marks base len)) =
    ap (events_pending v) (runs_front lent now count base code (runs_of_delete marks base len) (log_of_delete marks base len) is
    ∙ (ap (map run_of) (runs_then marks base len) ∙ map-append run_of (stops_in_runs marks base len) (Single (Did Bump) ∷ [])))
    ∙ (due_append v (map run_of (stops_in_runs marks base len)) (run_of (Single (Did Bump)) ∷ [])
    ∙ (append-nil (events_pending v (map run_of (stops_in_runs marks base len)))
    ∙ runs_read v (record no_details { base = base; len = len }) (stops_in_runs marks base len)
    (All-append (IsRunRead v (record no_details { base = base; len = len })) (runs_where StopRun (is_marked_at marks) base (len / 32))
    (Single Serialized ∷ runs_where StopRun (is_unmarked_at marks) base (len / 32))
    (stop_runs v (record no_details { base = base; len = len }) (is_marked_at marks) (len / 32) base)
    (All-cons (IsRunRead v (record no_details { base = base; len = len })) (Single Serialized)
    (runs_where StopRun (is_unmarked_at marks) base (len / 32)) refl
    (stop_runs v (record no_details { base = base; len = len }) (is_unmarked_at marks) (len / 32) base))))) in
    ap (λ (z : List Event). z ++ Retires base len ∷ [])
    (read ∙ ap (events_of_log (record no_details { base = base; len = len })) (sym (runs_entries marks base len v.base code v.code)))
    ∙ (sym (log_append (record no_details { base = base; len = len }) (entries_in base code (stops_in_runs marks base len)) (Did Bump ∷ []))
    ∙ ap (events_of_log (record no_details { base = base; len = len }))
    (sym (entries_append base code (stops_in_runs marks base len) (Single (Did Bump) ∷ []))
    ∙ (ap (entries_in base code) (sym (runs_then marks base len)) ∙ is.entries)))
