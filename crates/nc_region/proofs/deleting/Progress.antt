-- A reclaim frees each chunk whose stamp every seat has passed.
use Rattle.std.proofs.Common.{◌≡◌, ◌++◌, ℕ, ◌<◌, ◌≤◌, ◌⊎◌, inl, not, true, List, length, get_or, arith, sym, ap, subst, ◌∙◌}
use Rattle.std.specs.Prelude.{Contains, nat_le}
use Rattle.std.proofs.lemmas.Bool.{not-true, leb-false}
use Rattle.std.proofs.lemmas.List.Elements.{filter_passes, All-contains}
use Rattle.nc_gens.specs.declared.view.WordStep.{WordStep}
use Rattle.nc_gens.specs.declared.view.WordStep.TheVariants.{TookWord}
use Rattle.nc_gens.specs.Trail.{seat_word}
use Rattle.nc_gens.specs.Seen.{least_number}
use Rattle.nc_gens.specs.Progress.{IsBeforeLook}
use Rattle.nc_gens.proofs.Offered.{each_loaded, is_before, past_from}
use Rattle.nc_list.specs.declared.chunk.Chunk.{Chunk}
use Rattle.nc_list.specs.declared.chunk.ChunkState.{ChunkState}
use Rattle.nc_region.specs.Region.{Region}
use Rattle.nc_region.specs.Deletion.{is_due, kept, IsReclaimed, AreFreedUpTo, HasProgressed}

-- a retired chunk that stays has a stamp above the number up to which chunks are freed
stays_above : (least stamp : ℕ) (chunks : List Chunk) → stamp ≤ least → AreFreedUpTo stamp (kept least chunks)
stays_above least stamp chunks le c drawn there is =
    let stays : not (is_due least c.state) ≡ true =
    All-contains (λ (d : Chunk). not (is_due least d.state) ≡ true) (kept least chunks) c
    (filter_passes (λ (d : Chunk). not (is_due least d.state)) chunks) there in
    let above : least < drawn =
    leb-false drawn least (not-true (nat_le drawn least) (sym (ap (λ (s : ChunkState). not (is_due least s)) is) ∙ stays)) in
    omega arith

-- If each seat has checked in since a stamp, or has left, where the known part of a trail ends, or the keeper knew that before the
-- reclaim, and each seat's word was loaded after that part, the chunks with a stamp of at most that one are freed.
pub freed_from : (old new : Region) (count stamp : ℕ) (known rest : List WordStep) → IsReclaimed old new count
    → stamp ≤ new.keeper.numbers.generation → new.keeper.trail ≡ known ++ rest
    → ((k : ℕ) → k < length new.keeper.numbers.bounds → Contains rest (TookWord k))
    → ((k : ℕ) → k < length new.keeper.numbers.bounds
    → (stamp ≤ seat_word (length new.keeper.numbers.bounds) known k) ⊎ (stamp ≤ get_or old.keeper.numbers.bounds k 0))
    → AreFreedUpTo stamp new.chunks
freed_from old new count stamp known rest is drawn parts loaded passed =
    subst (AreFreedUpTo stamp) (sym is.chunks)
    (stays_above (least_number new.keeper.numbers) stamp old.chunks
    (past_from old.keeper new.keeper stamp known rest is.looked drawn parts loaded passed))

-- the same for a part that ends before the look
pub freed_past : (old new : Region) (count stamp : ℕ) (known : List WordStep) → IsReclaimed old new count
    → stamp ≤ new.keeper.numbers.generation → IsBeforeLook (length new.keeper.numbers.bounds) known new.keeper.trail
    → ((k : ℕ) → k < length new.keeper.numbers.bounds
    → (stamp ≤ seat_word (length new.keeper.numbers.bounds) known k) ⊎ (stamp ≤ get_or old.keeper.numbers.bounds k 0))
    → AreFreedUpTo stamp new.chunks
freed_past old new count stamp known is drawn b passed =
    freed_from old new count stamp known b.rest is drawn b.parts
    (λ k inside. each_loaded (length new.keeper.numbers.bounds) k b.rest b.others inside b.loads) passed

-- a reclaim has this progress
pub progressed : (old new : Region) (count : ℕ) → IsReclaimed old new count → HasProgressed new
progressed old new count is stamp known drawn b passed =
    freed_past old new count stamp known is drawn b (λ k inside. inl (passed k inside))

-- the trail that the keeper recalled ends before the look
pub before_reclaim : (old new : Region) (count : ℕ) → IsReclaimed old new count
    → IsBeforeLook (length new.keeper.numbers.bounds) old.keeper.trail new.keeper.trail
before_reclaim old new count is = is_before old.keeper new.keeper is.looked
