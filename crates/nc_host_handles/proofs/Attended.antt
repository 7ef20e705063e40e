-- Passes check in one after the other.
use Rattle.std.proofs.Common.{◌≡◌, ℕ, suc, ◌+◌, ◌<◌, ◌≤◌, List, [], ◌∷◌, ◌++◌, length, map, take, get_or, set, refl, sym, ap, subst, arith, ◌∙◌}
use Rattle.std.specs.Prelude.{All, slice_index_or}
use Rattle.std.specs.List.{AllWithin}
use Rattle.std.proofs.lemmas.List.{length-set}
use Rattle.std.proofs.lemmas.List.Elements.{All-set, AllWithin-more_set, All-from_all_within}
use Rattle.std.proofs.Math.Seq.{map-set_same, take-suc}
use Rattle.std.proofs.Math.ListN.{get_or-map}
use Rattle.atomic_table.specs.Seated.{TableId}
use Rattle.nc_gens.specs.declared.view.WordStep.{WordStep}
use Rattle.nc_gens.specs.declared.view.WordStep.TheVariants.{TookWord}
use Rattle.nc_gens.specs.Seen.{PassState, Raised, KeeperSteps}
use Rattle.nc_gens.proofs.Offered.{no_steps, steps_both}
use Rattle.nc_region.specs.Region.{Region}
use Rattle.nc_histories.specs.Steps.{word_steps}
use Rattle.nc_host_handles.specs.RegionHandle.{IsIn, meetings}
use Rattle.nc_host_handles.specs.machinery.Attending.{HasAttended}

-- bounds that are raised twice are raised
pub raised_twice : (xs ys zs : List ℕ) → Raised xs ys → Raised ys zs → Raised xs zs
raised_twice xs ys zs one two =
    (two.0 ∙ one.0, λ i lt. omega (arith, one.1 i lt, two.1 i (omega (arith, lt, one.0))))

-- a keeper's bound for a pass that is at least a number still is once bounds are raised
pub still_in : (r s : Region) (n : ℕ) (p : PassState) → Raised r.keeper.numbers.bounds s.keeper.numbers.bounds → IsIn r n p → IsIn s n p
still_in r s n p raised in' = (omega (arith, in'.0, raised.0), omega (arith, in'.1, raised.1 p.seat in'.0))

-- at the beginning no pass has checked in
pub attended_none : (gens : TableId) (r : Region) (passes : List PassState) → r.keeper.table ≡ gens
    → All (λ (p : PassState). p.table ≡ gens) passes → HasAttended gens r passes r passes 0
attended_none gens r passes table tables = record {
  others = refl;
  table = table;
  generation = refl;
  raised = (refl, λ i lt. omega arith);
  as_many = refl;
  tables = tables;
  seats = refl;
  steps = no_steps r.keeper r.keeper refl;
  unmet = λ none. refl;
  inside = λ k d low high. absurd (omega (arith, high));
}

-- the steps of meetings with one more pass
met_more : (passes : List PassState) (p : PassState)
    → word_steps (meetings (passes ++ p ∷ [])) ≡ word_steps (meetings passes) ++ TookWord p.seat ∷ TookWord p.seat ∷ []
met_more [] p = refl
met_more (q ∷ rest) p = ap (λ (l : List WordStep). TookWord q.seat ∷ TookWord q.seat ∷ l) (met_more rest p)

-- a pass has the same seat in two lists with the same seats
pub same_seat : (now before : List PassState) (i : ℕ) (d : PassState)
    → map (λ (q : PassState). q.seat) now ≡ map (λ (q : PassState). q.seat) before → (get_or now i d).seat ≡ (get_or before i d).seat
same_seat now before i d same =
    sym (get_or-map (λ (q : PassState). q.seat) now i d)
    ∙ (ap (λ (l : List ℕ). get_or l i d.seat) same ∙ get_or-map (λ (q : PassState). q.seat) before i d)

-- the steps of meetings with the first passes of a list, and with the next one
one_more : (before : List PassState) (i : ℕ) (p d : PassState) → i < length before → p.seat ≡ (get_or before i d).seat
    → word_steps (meetings (take (i + 1) before)) ≡ word_steps (meetings (take i before)) ++ TookWord p.seat ∷ TookWord p.seat ∷ []
one_more before i p d lt same =
    let next : i + 1 ≡ suc i = omega arith in
    ap (λ (l : List PassState). word_steps (meetings l)) (ap (λ (n : ℕ). take n before) next ∙ take-suc before i d lt)
    ∙ (met_more (take i before) (get_or before i d)
    ∙ ap (λ (k : ℕ). word_steps (meetings (take i before)) ++ TookWord k ∷ TookWord k ∷ []) (sym same))

-- once the next pass has checked in, all up to it have
pub attended_next : (gens : TableId) (old : Region) (before : List PassState) (r s : Region) (now : List PassState) (i : ℕ) (p d : PassState)
    → HasAttended gens old before r now i → i < length now
    → (p.table ≡ gens) × (p.seat ≡ (get_or now i d).seat) → s ≡ record r { keeper = s.keeper } → s.keeper.table ≡ r.keeper.table
    → s.keeper.numbers.generation ≡ r.keeper.numbers.generation → Raised r.keeper.numbers.bounds s.keeper.numbers.bounds
    → p.seat < length s.keeper.numbers.bounds → r.keeper.numbers.generation ≤ get_or s.keeper.numbers.bounds p.seat 0
    → KeeperSteps r.keeper s.keeper (TookWord p.seat ∷ TookWord p.seat ∷ [])
    → HasAttended gens old before s (set now i p) (i + 1)
attended_next gens old before r s now i p d h lt same others table generation raised inside bound steps =
    let n = old.keeper.numbers.generation in
    let kept : AllWithin (IsIn s n) now 0 i = λ k e low high. still_in r s n (slice_index_or now k e) raised (h.inside k e low high) in
    let here : IsIn s n p = (inside, omega (arith, bound, h.generation)) in
    record {
      others = others ∙ ap (λ (z : Region). record z { keeper = s.keeper }) h.others;
      table = table ∙ h.table;
      generation = generation ∙ h.generation;
      raised = raised_twice old.keeper.numbers.bounds r.keeper.numbers.bounds s.keeper.numbers.bounds h.raised raised;
      as_many = length-set now i p ∙ h.as_many;
      tables = All-set (λ (q : PassState). q.table ≡ gens) now i p same.0 h.tables;
      seats = map-set_same (λ (q : PassState). q.seat) now i p d same.1 ∙ h.seats;
      steps = subst (KeeperSteps old.keeper s.keeper)
          (sym (one_more before i p d (omega (arith, lt, h.as_many)) (same.1 ∙ same_seat now before i d h.seats)))
          (steps_both old.keeper r.keeper s.keeper (word_steps (meetings (take i before))) (TookWord p.seat ∷ TookWord p.seat ∷ []) h.steps steps);
      unmet = λ none. absurd (omega (arith, lt, h.as_many, ap (λ (ps : List PassState). length ps) none));
      inside = AllWithin-more_set now i p lt (IsIn s n) kept here;
    }

-- once all passes have checked in, the keeper's bound for each is at least the generation
pub attended_all : (gens : TableId) (old : Region) (before : List PassState) (r : Region) (now : List PassState) (i : ℕ)
    → HasAttended gens old before r now i → length now ≤ i → All (IsIn r old.keeper.numbers.generation) now
attended_all gens old before r now i h le =
    All-from_all_within (IsIn r old.keeper.numbers.generation) now (λ k d low high. h.inside k d low (omega (arith, high, le)))
