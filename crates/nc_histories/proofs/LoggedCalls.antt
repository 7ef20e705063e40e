-- What a call of a region logs is a call of a history.
use Rattle.std.proofs.Common.{◌≡◌, ℕ, List, [], ◌∷◌, refl, sym, ap, subst}
use Rattle.std.specs.Prelude.{Result, Ok, Err, OnOk, OnErr, IfOk, IfErr, Contains, length}
use Rattle.std.proofs.lemmas.List.Elements.{All-nil, All-cons}
use Rattle.nc_text.specs.Places.{limit_of}
use Rattle.nc_gens.specs.Seen.{PassState, HasMet}
use Rattle.nc_vet.specs.Chunk.{MarkedChunk, Piece, IsValid}
use Rattle.nc_list.specs.declared.chunk.Chunk.{Chunk}
use Rattle.nc_region.specs.schedules.Events.{Looks}
use Rattle.nc_acts.specs.declared.acts.Entry.{Entry}
use Rattle.nc_region.specs.declared.fault.CreateFault.{CreateFault}
use Rattle.nc_region.specs.declared.fault.ModifyFault.{ModifyFault}
use Rattle.nc_region.specs.declared.fault.DeleteFault.{DeleteFault}
use Rattle.nc_region.specs.Region.{Region, IsCreated, IsRefused, MayRefuse, Meets}
use Rattle.nc_acts.specs.Log.{Logs, log_of_create, log_of_delete}
use Rattle.nc_acts.proofs.Offered.{logs_none}
use Rattle.nc_region.specs.Deletion.{IsDeleted, MayRefuseDelete, IsReclaimed}
use Rattle.nc_region.specs.Patch.{IsPatch, IsPatched, MayRefusePatch, AreBytesOf, log_of_patch}
use Rattle.nc_region.specs.Quiet.{retired_spans}
use Rattle.nc_region.proofs.Offered.{listed_there}
use Rattle.nc_histories.specs.Interleaving.{IsKeepers}
use Rattle.nc_histories.specs.Calls.{Details, no_details, events_of_log}
use Rattle.nc_histories.specs.Histories.{IsRefusal, OfRefusedCreation, OfRefusedPatch, OfRefusedDeletion, LogsRefusal}
use Rattle.nc_histories.specs.Histories.{NoneYet, IsCall, Creates, Patches, Deletes, Reclaims, UsesKeeper, Refuses, Keeps, LogsCall}
use Rattle.nc_histories.proofs.Entries.{stops_of, stops_then}
use Rattle.nc_histories.proofs.Refusals.{same_but_pages, refusal_same}

-- a call whose events are those of its log
logs_call : (seats : ℕ) (details : Details) (old new : Region) (own : List Entry) → Logs old.logged new.logged own
    → IsCall seats old new (events_of_log details own) → LogsCall seats details old new
logs_call seats details old new own logs call = (own, logs, call)

-- a region with the same log has logged nothing
logs_nothing : (old new : Region) → new.logged ≡ old.logged → Logs old.logged new.logged []
logs_nothing old new same = subst (λ (log : List Entry). Logs old.logged log []) (sym same) (logs_none old.logged)

-- an equal region is left by a call that does nothing
keeps_logged : (seats : ℕ) (old new : Region) → new ≡ old → LogsCall seats no_details old new
keeps_logged seats old new same =
    logs_call seats no_details old new [] (logs_nothing old new (ap (λ (r : Region). r.logged) same))
    (Keeps (same_but_pages old new same) refl)

-- a refused call has logged nothing
logs_refusal : (old new : Region) → IsRefusal old new [] → LogsRefusal old new
logs_refusal old new is = (ap (λ (r : Region). r.logged) (refusal_same old new [] is), is)

-- a refused call has logged nothing, and is logged as a call
logs_both : (seats : ℕ) (old new : Region) → IsRefusal old new [] → LogsRefusal old new × LogsCall seats no_details old new
logs_both seats old new is =
    let logs = logs_refusal old new is in
    (logs, logs_call seats no_details old new [] (logs_nothing old new logs.0) (Refuses is))

-- an accepted creation is logged as a call
pub creates : {T E : Type 0} (answer : Result T E) (seats : ℕ) (old new : Region) (v : MarkedChunk) → IsValid v
    → OnOk answer (IsCreated old new v) → OnOk answer (Logs old.logged new.logged (log_of_create v.base v.code))
    → OnOk answer ((v.limit ≡ limit_of old.marked.bytes) × ¬ Meets v.base (length v.code) old.chunks)
    → OnOk answer (LogsCall seats (record no_details { marks = v.marks }) old new)
creates (Ok x) seats old new v valid is log free =
    logs_call seats (record no_details { marks = v.marks }) old new (log_of_create v.base v.code) log
    (Creates v valid free.0 is [] NoneYet refl)
creates (Err e) seats old new v valid is log free = tt

-- a refused creation is logged as a refusal and as a call
pub refuses : {T : Type 0} (answer : Result T (MarkedChunk × CreateFault)) (seats : ℕ) (old new : Region) (v : MarkedChunk)
    → IfErr answer (λ e. (e.0 ≡ v) × IsRefused old new v e.1) → IfErr answer (λ e. MayRefuse old v e.1)
    → OnErr answer (LogsRefusal old new × LogsCall seats no_details old new)
refuses (Ok x) seats old new v is due = tt
refuses (Err e) seats old new v is due = logs_both seats old new (OfRefusedCreation v e.1 due is.1 refl)

-- a patch, accepted or refused
pub patches : {T E : Type 0} (answer : Result T E) (seats : ℕ) (old new : Region) (at : ℕ) (bytes : List ℕ)
    → OnOk answer (IsPatch old at bytes) → OnOk answer (IsPatched old new at bytes)
    → OnOk answer ((news : List Piece) → AreBytesOf bytes news
    → Logs old.logged new.logged (log_of_patch old.marked.bytes at news))
    → IfErr answer (λ e. new ≡ old) → LogsCall seats no_details old new
patches (Ok x) seats old new at bytes lawful is log same =
    let run = lawful.1.2.0.run in
    logs_call seats no_details old new (log_of_patch old.marked.bytes at run.news) (log run.news run.bytes)
    (Patches at bytes run.news lawful run.bytes is [] NoneYet refl)
patches (Err e) seats old new at bytes lawful is log same = keeps_logged seats old new same

-- a refused patch is logged as a refusal
pub patches_nothing : {T : Type 0} (answer : Result T ModifyFault) (old new : Region) (at : ℕ) (bytes : List ℕ)
    → IfErr answer (λ e. new ≡ old) → IfErr answer (MayRefusePatch old at bytes) → OnErr answer (LogsRefusal old new)
patches_nothing (Ok x) old new at bytes same due = tt
patches_nothing (Err e) old new at bytes same due = logs_refusal old new (OfRefusedPatch at bytes e due same refl)

-- an accepted deletion is logged as a call
pub deletes : {E : Type 0} (answer : Result ℕ E) (seats : ℕ) (old new : Region) (base : ℕ) → IfOk answer (IsDeleted old new base)
    → OnOk answer ((c : Chunk) × Contains old.chunks c × (c.base ≡ base)
    × LogsCall seats (record no_details { base = base; len = c.length }) old new)
deletes (Ok stamp) seats old new base is =
    let there = listed_there old.chunks is.index is.chunk is.listed in (
      is.chunk,
      (is.index, there.0, there.1),
      is.base_is,
      logs_call seats (record no_details { base = base; len = is.chunk.length }) old new
          (log_of_delete old.marked.marks base is.chunk.length) is.log
          (Deletes base stamp is (stops_of old.marked.marks base is.chunk.length) []
          (stops_then old.marked.marks base is.chunk.length) NoneYet refl),
    )
deletes (Err e) seats old new base is = tt

-- a refused deletion is logged as a refusal
pub deletes_nothing : {T : Type 0} (answer : Result T DeleteFault) (seats : ℕ) (old new : Region) (base : ℕ)
    → OnErr answer (new ≡ old) → IfErr answer (MayRefuseDelete old base)
    → OnErr answer (LogsRefusal old new × LogsCall seats no_details old new)
deletes_nothing (Ok x) seats old new base same due = tt
deletes_nothing (Err e) seats old new base same due = logs_both seats old new (OfRefusedDeletion base e due same refl)

-- a reclaim is logged as a call
pub reclaims : (seats : ℕ) (old new : Region) (count : ℕ) → IsReclaimed old new count
    → LogsCall seats (record no_details { seats = seats; spans = retired_spans old.chunks }) old new
reclaims seats old new count is =
    logs_call seats (record no_details { seats = seats; spans = retired_spans old.chunks }) old new _ is.log (Reclaims count is refl)

-- a meeting with the keeper is a call
pub meets : (seats : ℕ) (old new : Region) (pass after : PassState) → HasMet pass old.keeper after new.keeper
    → new ≡ record old { keeper = new.keeper } → IsCall seats old new (Looks pass.seat ∷ [])
meets seats old new pass after met others =
    UsesKeeper (ap (λ (r : Region). r.marked) others) (ap (λ (r : Region). r.chunks) others)
    (All-cons IsKeepers (Looks pass.seat) [] tt (All-nil IsKeepers)) met.steps_of_keeper met.in_range
