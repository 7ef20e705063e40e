-- A host that reads runs.
use Rattle.std.proofs.Common.{◌≡◌, ℕ, ◌≤◌, List, [], length, Some, arith, ◌∙◌, sym, ap, subst}
use Rattle.std.specs.Prelude.{Contains, All, take}
use Rattle.std.specs.List.{insert}
use Rattle.std.proofs.lemmas.List.Edits.{get_or-insert_at, length-insert}
use Rattle.nc_vet.specs.Chunk.{MarkedChunk, IsValid}
use Rattle.nc_list.specs.declared.chunk.Chunk.{Chunk}
use Rattle.nc_region.specs.schedules.Events.{Event}
use Rattle.nc_acts.specs.Log.{log_of_create}
use Rattle.nc_region.specs.Region.{Region, live_chunk}
use Rattle.nc_histories.specs.Calls.{create_events, delete_events}
use Rattle.nc_histories.specs.Histories.{NoneYet, Creates}
use Rattle.nc_histories.proofs.Offered.{still_created}
use Rattle.nc_host_acts.specs.declared.act.NcAct.{NcAct}
use Rattle.nc_host_acts.specs.Runs.{runs_of_create, HasRuns}
use Rattle.nc_host_handles.specs.RegionHandle.{RegionHandleState, IsLiveAt, HasBegunDeletion, HasLoaded}
use Rattle.nc_host_handles.specs.RunCalls.{AreCreationRuns, AreDeletionRuns}
use Rattle.nc_host_handles.specs.Lent.{bytes_of_span}
use Rattle.nc_host_handles.specs.Pending.{IsHandleCall, Changes, Begins, events_pending}
use Rattle.nc_host_handles.proofs.Offered.{create_runs_due, delete_runs_due, still_none, one_of_base, span_put, chunk_span}
use Rattle.nc_host_law.specs.Hosts.{Host, IsMadeByHost, IsReached}
use Rattle.nc_host_law.proofs.Going.{again as again_announced, restarts}
use Rattle.nc_host_law.proofs.Making.{create_by_host}
use Rattle.nc_host_law.proofs.Concluding.{is_region}

-- a chunk that was inserted is in the list
inserted : (old new : List Chunk) (k : ℕ) (c : Chunk) → k ≤ length old → new ≡ insert old k c → Contains new c
inserted old new k c le is =
    subst (λ (z : List Chunk). Contains z c) (sym is)
    (k, omega (arith, le, length-insert old k c), get_or-insert_at old k c c le)

-- the live chunk with the base of the one created is that one
the_chunk : (bundles seats : ℕ) (host : Host) (new : RegionHandleState) (v : MarkedChunk) (c : Chunk) → IsReached bundles seats host → IsValid v
    → HasLoaded v host.handle new → IsLiveAt new.region.chunks v.base c → c ≡ live_chunk v
the_chunk bundles seats host new v c reached valid loaded live =
    one_of_base new.region.marked new.region.chunks c (live_chunk v)
    (still_created host.handle.region new.region v (is_region bundles seats host reached) valid loaded.1 loaded.3)
    live.0 (inserted host.handle.region.chunks new.region.chunks loaded.3.chunks.0 (live_chunk v) loaded.3.chunks.1.0 loaded.3.chunks.2) live.2

-- a creation whose runs are reported is a call by a handle (`IsHandleCall`)
pub creation : (bundles seats : ℕ) (host : Host) (new : RegionHandleState) (v : MarkedChunk) (c : Chunk) (lent now : List NcAct) (count : ℕ)
    → IsReached bundles seats host → IsValid v → HasLoaded v host.handle new → IsLiveAt new.region.chunks v.base c
    → AreCreationRuns new c lent now count → IsHandleCall seats host.handle new (events_pending v (take count now))
creation bundles seats host new v c lent now count reached valid loaded live runs =
    let same : c ≡ live_chunk v = the_chunk bundles seats host new v c reached valid loaded live in
    let code : bytes_of_span new.region.marked.bytes c.base c.length ≡ v.code =
    ap (λ (d : Chunk). bytes_of_span new.region.marked.bytes d.base d.length) same
    ∙ (ap (λ (z : List ℕ). bytes_of_span z v.base (length v.code)) loaded.3.bytes
    ∙ span_put host.handle.region.marked.bytes v.base v.code (chunk_span host.handle.region v valid loaded.1)) in
    let here : HasRuns lent now count v.base v.code (runs_of_create v.base v.code) (log_of_create v.base v.code) =
    subst (λ (z : List ℕ). HasRuns lent now count v.base z (runs_of_create v.base z) (log_of_create v.base z)) code
    (subst (λ (b : ℕ). HasRuns lent now count b (bytes_of_span new.region.marked.bytes c.base c.length)
    (runs_of_create b (bytes_of_span new.region.marked.bytes c.base c.length))
    (log_of_create b (bytes_of_span new.region.marked.bytes c.base c.length))) live.2 runs.1) in
    Changes loaded.0 (still_none host.handle new loaded.4 loaded.0)
    (Creates v valid loaded.1 loaded.3 [] NoneYet (create_runs_due v lent now count here))

-- a creation that was the last call: its runs are its events while the chunk has its bytes
pub created_again : (bundles seats : ℕ) (host : Host) (v : MarkedChunk) (c : Chunk) (lent now : List NcAct) (count : ℕ)
    → IsReached bundles seats host → host.announced ≡ create_events v → c.base ≡ v.base
    → bytes_of_span host.handle.region.marked.bytes c.base c.length ≡ v.code → AreCreationRuns host.handle c lent now count
    → IsReached bundles seats (record host { pending = events_pending v (take count now) })
created_again bundles seats host v c lent now count reached announced base code runs =
    let here : HasRuns lent now count v.base v.code (runs_of_create v.base v.code) (log_of_create v.base v.code) =
    subst (λ (z : List ℕ). HasRuns lent now count v.base z (runs_of_create v.base z) (log_of_create v.base z)) code
    (subst (λ (b : ℕ). HasRuns lent now count b (bytes_of_span host.handle.region.marked.bytes c.base c.length)
    (runs_of_create b (bytes_of_span host.handle.region.marked.bytes c.base c.length))
    (log_of_create b (bytes_of_span host.handle.region.marked.bytes c.base c.length))) base runs.1) in
    subst (λ (z : List Event). IsReached bundles seats (record host { pending = z }))
    (announced ∙ sym (create_runs_due v lent now count here))
    (again_announced bundles seats host reached (subst (All IsMadeByHost) (sym announced) (create_by_host v)))

-- the first call of a deletion
pub deletion : (seats : ℕ) (old new : RegionHandleState) (base : ℕ) (v : MarkedChunk) (c : Chunk) (lent now : List NcAct) (count : ℕ)
    → HasBegunDeletion old new base c → AreDeletionRuns new c lent now count → IsHandleCall seats old new (events_pending v (take count now))
deletion seats old new base v c lent now count begun runs =
    let region : new.region ≡ old.region = ap (λ (h : RegionHandleState). h.region) begun.others in
    Begins c (subst (λ (b : ℕ). HasBegunDeletion old new b c) (sym begun.live.2) begun)
    (delete_runs_due v new.region.marked.marks c.base c.length (bytes_of_span new.region.marked.bytes c.base c.length) lent now count runs.1
    ∙ ap (λ (r : Region). delete_events r.marked.marks c.base c.length) region)

-- a deletion that is under way
pub again : (bundles seats : ℕ) (host : Host) (v : MarkedChunk) (c : Chunk) (lent now : List NcAct) (count : ℕ)
    → IsReached bundles seats host → host.handle.begun ≡ Some c → AreDeletionRuns host.handle c lent now count
    → IsReached bundles seats (record host { pending = events_pending v (take count now) })
again bundles seats host v c lent now count reached begun runs =
    restarts bundles seats host c (events_pending v (take count now)) reached begun
    (delete_runs_due v host.handle.region.marked.marks c.base c.length (bytes_of_span host.handle.region.marked.bytes c.base c.length) lent now
    count runs.1)
