-- The looks of a reclaim come before its other events.
use Rattle.std.proofs.Common.{◌≡◌, ℕ, List, [], ◌∷◌, ◌++◌, map, sym, subst}
use Rattle.std.specs.Prelude.{All}
use Rattle.std.proofs.lemmas.List.Elements.{All-nil, All-cons, All-tail}
use Rattle.nc_list.specs.declared.chunk.Chunk.{Chunk}
use Rattle.nc_region.specs.schedules.Events.{Event, Frees, Looks}
use Rattle.nc_acts.specs.Log.{only_acts}
use Rattle.nc_region.specs.Deletion.{unmarkings}
use Rattle.nc_histories.specs.Interleaving.{IsKeepers, IsNoLook}
use Rattle.nc_histories.specs.Calls.{Details, events_of_log, span_from}

-- the last of some elements
pub all_back : {X : Type 0} (P : X → Type 0) (xs ys : List X) → All P (xs ++ ys) → All P ys
all_back P [] ys all = all
all_back P (x ∷ xs) ys all = all_back P xs ys (All-tail P x (xs ++ ys) all)

-- the unmarkings of a reclaim
pub frees_no_look : (d : Details) (chunks : List Chunk) → All IsNoLook (events_of_log d (only_acts (unmarkings chunks)))
frees_no_look d [] = All-nil IsNoLook
frees_no_look d (c ∷ chunks) = All-cons IsNoLook (Frees (span_from d.spans c.base)) _ tt (frees_no_look d chunks)

-- while a look is to come, there were only looks
pub only_looks : (since pending : List Event) (ks : List ℕ) (frees : List Event) → since ++ pending ≡ map Looks ks ++ frees
    → All IsNoLook frees → ¬ All IsNoLook pending → All IsKeepers since
only_looks [] pending ks frees is none some = All-nil IsKeepers
only_looks (x ∷ since) pending [] frees is none some =
    absurd (some (all_back IsNoLook (x ∷ since) pending (subst (All IsNoLook) (sym is) none)))
only_looks (x ∷ since) pending (k ∷ ks) frees is none some =
    let first : x ≡ Looks k = cc in
    let rest : since ++ pending ≡ map Looks ks ++ frees = cc in
    All-cons IsKeepers x since (subst IsKeepers (sym first) tt) (only_looks since pending ks frees rest none some)

-- once an event that is no look comes, no look is to come
pub rest_looks_not : (since later : List Event) (event : Event) (ks : List ℕ) (frees : List Event)
    → since ++ event ∷ later ≡ map Looks ks ++ frees → IsNoLook event → All IsNoLook frees → All IsNoLook (event ∷ later)
rest_looks_not [] later event [] frees is no_look none = subst (All IsNoLook) (sym is) none
rest_looks_not [] later event (k ∷ ks) frees is no_look none =
    absurd (let first : event ≡ Looks k = cc in subst IsNoLook first no_look)
rest_looks_not (x ∷ since) later event [] frees is no_look none =
    all_back IsNoLook (x ∷ since) (event ∷ later) (subst (All IsNoLook) (sym is) none)
rest_looks_not (x ∷ since) later event (k ∷ ks) frees is no_look none =
    let rest : since ++ event ∷ later ≡ map Looks ks ++ frees = cc in
    rest_looks_not since later event ks frees rest no_look none
