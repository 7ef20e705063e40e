-- Seats that were not given out delay no reclaim.
use Rattle.std.proofs.Common.{◌≡◌, ◌≢◌, ℕ, zero, suc, ◌<◌, ◌≤◌, ◌⊎◌, inl, inr, ⊎_elim, List, [], ◌∷◌, length, map, get_or, arith, sym, ap, subst, ◌∙◌}
use Rattle.std.specs.Prelude.{All, slice_index_or}
use Rattle.std.proofs.lemmas.List.{length-map}
use Rattle.std.proofs.lemmas.List.Elements.{All-nil, All-cons}
use mathlib.Core.Logic.{dite}
use native.Mathlib.Decide.{ℕ_discrete}
use Rattle.nc_gens.specs.Seen.{PassState, first_pass}
use Rattle.nc_region.specs.Region.{Region}
use Rattle.nc_region.specs.Deletion.{IsReclaimed}
use Rattle.nc_region.proofs.Offered.{freed_past}
use Rattle.nc_host_handles.specs.RegionHandle.{RegionHandleState, IsIn, HasFreedPassed}
use Rattle.nc_host_handles.proofs.Attended.{same_seat}

-- at this index of the list is a pass of the seat
abbrev IsPassOf : List PassState → ℕ → ℕ → Type 0
IsPassOf passes k i = (i < length passes) × ((d : PassState) → (slice_index_or passes i d).seat ≡ k)

-- a seat is not that of any of the passes, or it is that of one
given_or_not : (passes : List PassState) (k : ℕ) → All (λ (p : PassState). p.seat ≢ k) passes ⊎ ((i : ℕ) × IsPassOf passes k i)
given_or_not [] k = inl (All-nil (λ (p : PassState). p.seat ≢ k))
given_or_not (p ∷ rest) k = dite (ℕ_discrete p.seat k)
    (λ is. inr (zero, (omega arith, λ d. is)))
    (λ isnt. ⊎_elim
    (λ (none : All (λ (q : PassState). q.seat ≢ k) rest). inl (All-cons (λ (q : PassState). q.seat ≢ k) p rest isnt none))
    (λ (t : (i : ℕ) × IsPassOf rest k i). let lt = t.1.0 in inr (suc t.0, (omega (arith, lt), t.1.1)))
    (given_or_not rest k))

-- the keeper's bound for a seat that is that of a pass is at least what it is for each
bound_of_pass : (r : Region) (n : ℕ) (old now : List PassState) (k i : ℕ)
    → map (λ (p : PassState). p.seat) now ≡ map (λ (p : PassState). p.seat) old → All (IsIn r n) now → IsPassOf old k i
    → n ≤ get_or r.keeper.numbers.bounds k 0
bound_of_pass r n old now k i same all is =
    let long : length now ≡ length old =
    sym (length-map now (λ (p : PassState). p.seat)) ∙ (ap length same ∙ length-map old (λ (p : PassState). p.seat)) in
    let lt = is.0 in
    let d : PassState = first_pass r.keeper.table 0 in
    subst (λ (z : ℕ). n ≤ get_or r.keeper.numbers.bounds z 0) (same_seat now old i d same ∙ is.1 d) (all i d (omega (arith, long, lt))).1

-- a reclaim frees the chunks whose stamps the seats that were given out have passed
pub freed_given : (old : RegionHandleState) (met new : Region) (now : List PassState) (count : ℕ)
    → met.keeper.numbers.generation ≡ old.region.keeper.numbers.generation
    → map (λ (p : PassState). p.seat) now ≡ map (λ (p : PassState). p.seat) old.passes
    → All (IsIn met old.region.keeper.numbers.generation) now → IsReclaimed met new count → HasFreedPassed old new
freed_given old met new now count generation same all is stamp known drawn b passed =
    freed_past met new count stamp known is (let g = is.looked.generation in omega (arith, g, generation, drawn)) b
    (λ k inside. ⊎_elim
    (λ (given : All (λ (p : PassState). p.seat ≢ k) old.passes). inl (passed k inside given))
    (λ (t : (i : ℕ) × IsPassOf old.passes k i).
    let bound = bound_of_pass met old.region.keeper.numbers.generation old.passes now k t.0 same all t.1 in
    inr (omega (arith, bound, drawn)))
    (given_or_not old.passes k))
