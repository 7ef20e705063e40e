-- From each state that a host can reach, its pending events can be made, and each call leads on.
use Rattle.std.proofs.Common.{◌≡◌, ℕ, ◌+◌, ◌*◌, ◌⊎◌, inl, inr, false, Some, None, List, [], ◌∷◌, ◌++◌, refl, ◌∙◌, sym, ap, subst}
use Rattle.std.specs.Prelude.{All}
use Rattle.std.proofs.lemmas.List.{append_cancel_right}
use Rattle.std.proofs.lemmas.List.Elements.{All-nil, All-cons}
use Rattle.nc_vet.specs.Chunk.{MarkedChunk, Piece, IsValid}
use Rattle.nc_list.specs.declared.chunk.Chunk.{Chunk}
use Rattle.nc_region.specs.schedules.Events.{Event, Retires, ThreadMay}
use Rattle.nc_region.specs.Patch.{AreBytesOf}
use Rattle.nc_region.specs.Region.{Region}
use Rattle.nc_histories.specs.Interleaving.{is_writers, IsNoLook}
use Rattle.nc_histories.specs.Calls.{create_events, patch_events, delete_events}
use Rattle.nc_histories.specs.Histories.{NoneYet, Creates, Patches}
use Rattle.nc_host_handles.specs.RegionHandle.{RegionHandleState, HasLoaded, HasPatched, HasBegunDeletion, HasEndedDeletion, HasReclaimed, meetings}
use Rattle.nc_host_handles.specs.Pending.{IsHandleCall, ChangesPages, Changes, Begins, Ends}
use Rattle.nc_host_law.specs.Hosts.{Host, host_after, Runs, Makes, Restarts, Calls, Asks, IsMadeByHost, IsInOrder, IsReached, Then}
use Rattle.nc_host_law.proofs.Making.{rest_by_host, by_host_look_not}
use Rattle.nc_host_law.proofs.Reaching.{pending_by_host, deletion_announced, led}

-- a step is in order where no look is pending
none_looks : (old new : Host) → All IsNoLook old.pending → IsInOrder old new
none_looks old new none = λ some later. absurd (some none)

-- so is one that leaves what is pending
same_pending : (old new : Host) → new.pending ≡ old.pending → IsInOrder old new
same_pending old new same = λ some none. absurd (some (subst (All IsNoLook) same none))

-- the next event is made
pub makes_next : (bundles seats : ℕ) (host : Host) (event : Event) (later : List Event) → IsReached bundles seats host
    → host.pending ≡ event ∷ later → IsNoLook event ⊎ (¬ All IsNoLook later)
    → IsReached bundles seats (record (host_after host event) { pending = later })
makes_next bundles seats host event later reached is either =
    Then reached (Makes event is refl)
    (λ some none. elim either [
      | inl no_look ↦ absurd (some (subst (All IsNoLook) (sym is) (All-cons IsNoLook event later no_look none)))
      | inr more ↦ absurd (more none)
    ])

-- a call leads to a host that is reached
pub calls : (bundles seats : ℕ) (host : Host) (new : RegionHandleState) (own : List Event) → IsReached bundles seats host → host.pending ≡ []
    → IsHandleCall seats host.handle new own → IsReached bundles seats (record host { handle = new; pending = own; announced = own })
calls bundles seats host new own reached none call =
    Then reached (Calls none call refl) (none_looks host (record host { handle = new; pending = own; announced = own })
    (subst (All IsNoLook) (sym none) (All-nil IsNoLook)))

-- a creation leads to a host that is reached
pub loads : (bundles seats : ℕ) (host : Host) (new : RegionHandleState) (v : MarkedChunk) → IsReached bundles seats host → host.pending ≡ []
    → IsValid v → HasLoaded v host.handle new
    → IsReached bundles seats (record host { handle = new; pending = create_events v; announced = create_events v })
loads bundles seats host new v reached none valid loaded =
    calls bundles seats host new (create_events v) reached none
    (Changes loaded.0 (ap (λ (h : RegionHandleState). h.begun) loaded.4 ∙ loaded.0) (Creates v valid loaded.1 loaded.3 [] NoneYet refl))

-- a patch leads to a host that is reached
pub patches : (bundles seats : ℕ) (host : Host) (new : RegionHandleState) (at : ℕ) (bytes : List ℕ) (news : List Piece)
    → IsReached bundles seats host → host.pending ≡ [] → AreBytesOf bytes news → HasPatched at bytes host.handle new
    → IsReached bundles seats (record host {
      handle = new;
      pending = patch_events host.handle.region.marked.bytes at news;
      announced = patch_events host.handle.region.marked.bytes at news;
    })
patches bundles seats host new at bytes news reached none b patched =
    calls bundles seats host new (patch_events host.handle.region.marked.bytes at news) reached none
    (Changes patched.0 (ap (λ (h : RegionHandleState). h.begun) patched.3 ∙ patched.0)
    (Patches at bytes news patched.1 b patched.2 [] NoneYet refl))

-- the first call of a deletion leads to a host that is reached
pub begins : (bundles seats : ℕ) (host : Host) (new : RegionHandleState) (c : Chunk) (stops : List Event) → IsReached bundles seats host
    → host.pending ≡ [] → HasBegunDeletion host.handle new c.base c
    → stops ++ Retires c.base c.length ∷ [] ≡ delete_events host.handle.region.marked.marks c.base c.length
    → IsReached bundles seats (record host { handle = new; pending = stops; announced = stops })
begins bundles seats host new c stops reached none begun own = calls bundles seats host new stops reached none (Begins c begun own)

-- the events of the last call can be made again
pub again : (bundles seats : ℕ) (host : Host) → IsReached bundles seats host → All IsMadeByHost host.announced
    → IsReached bundles seats (record host { pending = host.announced })
again bundles seats host reached by_host =
    Then reached (Restarts by_host refl) (none_looks host (record host { pending = host.announced })
    (by_host_look_not host.pending (pending_by_host (65536 + 32 * bundles) seats host (led bundles seats host reached) by_host)))

-- the events of a deletion that has begun can be made anew
pub restarts : (bundles seats : ℕ) (host : Host) (c : Chunk) (stops : List Event) → IsReached bundles seats host
    → host.handle.begun ≡ Some c
    → stops ++ Retires c.base c.length ∷ [] ≡ delete_events host.handle.region.marked.marks c.base c.length
    → IsReached bundles seats (record host { pending = stops })
restarts bundles seats host c stops reached begun own =
    let ends = deletion_announced (65536 + 32 * bundles) seats host c (led bundles seats host reached) begun in
    let same : host.announced ≡ stops = append_cancel_right host.announced stops (Retires c.base c.length ∷ []) (ends ∙ sym own) in
    subst (λ (z : List Event). IsReached bundles seats (record host { pending = z })) same
    (again bundles seats host reached (rest_by_host host.handle.region.marked.marks c.base c.length [] host.announced ends))

-- what a call left to be made when the deletion began can be made anew, whatever seats were given since
pub anew : (bundles seats : ℕ) (host : Host) (old new : RegionHandleState) (c : Chunk) (stops : List Event) → IsReached bundles seats host
    → host.handle.begun ≡ Some c → IsHandleCall seats old new stops → new.begun ≡ Some c → new.region ≡ host.handle.region
    → IsReached bundles seats (record host { pending = stops })
anew bundles seats host old new c stops reached begun (Changes was is call) at same =
    absurd (let bad : None ≡ Some c = sym is ∙ at in cc)
anew bundles seats host old new c stops reached begun (Begins d begins own) at same =
    let is : Some d ≡ Some c = sym (ap (λ (h : RegionHandleState). h.begun) begins.others) ∙ at in
    let one : d ≡ c = cc in
    let region : old.region ≡ host.handle.region = sym (ap (λ (h : RegionHandleState). h.region) begins.others) ∙ same in
    restarts bundles seats host c stops reached begun
    (subst (λ (e : Chunk). stops ++ Retires e.base e.length ∷ [] ≡ delete_events host.handle.region.marked.marks e.base e.length) one
    (subst (λ (r : Region). stops ++ Retires d.base d.length ∷ [] ≡ delete_events r.marked.marks d.base d.length) region own))
anew bundles seats host old new c stops reached begun (Ends stamp is own) at same =
    absurd (let bad : None ≡ Some c = sym (ap (λ (h : RegionHandleState). h.begun) is.others) ∙ at in cc)

-- the last step of a deletion leads to a host that is reached
pub ends : (bundles seats : ℕ) (host : Host) (new : RegionHandleState) (stamp : ℕ) (is : HasEndedDeletion host.handle new stamp)
    → IsReached bundles seats host → host.pending ≡ []
    → IsReached bundles seats (record host {
      handle = new;
      pending = Retires is.chunk.base is.chunk.length ∷ [];
      announced = Retires is.chunk.base is.chunk.length ∷ [];
    })
ends bundles seats host new stamp is reached none =
    calls bundles seats host new (Retires is.chunk.base is.chunk.length ∷ []) reached none (Ends stamp is refl)

-- any other call, refused or not, leads to a host that is reached
pub asks : (bundles seats : ℕ) (host : Host) (new : RegionHandleState) → IsReached bundles seats host → new.begun ≡ host.handle.begun
    → new.region ≡ record host.handle.region { made = new.region.made } → IsReached bundles seats (record host { handle = new })
asks bundles seats host new reached begun region =
    Then reached (Asks begun region refl) (same_pending host (record host { handle = new }) refl)

-- a refused call leads to a host that is reached
pub fails : (bundles seats : ℕ) (host : Host) (new : RegionHandleState) → IsReached bundles seats host → ChangesPages host.handle new
    → IsReached bundles seats (record host { handle = new })
fails bundles seats host new reached pages =
    asks bundles seats host new reached (ap (λ (h : RegionHandleState). h.begun) pages) (ap (λ (h : RegionHandleState). h.region) pages)

-- an event of a thread
pub runs : (bundles seats : ℕ) (host : Host) (event : Event) → IsReached bundles seats host → is_writers event ≡ false
    → ThreadMay host.world event → IsReached bundles seats (host_after host event)
runs bundles seats host event reached thread may =
    Then reached (Runs event thread may refl) (same_pending host (host_after host event) refl)

-- the first half of a reclaim leads to a host that is reached
pub reclaims : (bundles seats : ℕ) (host : Host) (new : RegionHandleState) (count : ℕ) (is : HasReclaimed host.handle new count)
    → IsReached bundles seats host → host.pending ≡ []
    → IsReached bundles seats (record host {
      handle = record host.handle { region = is.met };
      pending = meetings host.handle.passes;
      announced = meetings host.handle.passes;
    })
reclaims bundles seats host new count is reached none =
    calls bundles seats host (record host.handle { region = is.met }) (meetings host.handle.passes) reached none
    (Changes is.none is.none (is.meets seats))
