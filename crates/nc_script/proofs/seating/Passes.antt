-- Lists of passes, each at its seat's place.
use Rattle.std.proofs.Common.{◌≡◌, ◌≢◌, ℕ, zero, suc, ◌+◌, ◌<◌, ◌≤◌, ◌⊎◌, inl, inr, List, [], ◌∷◌, ◌++◌, length, map, get_or, set, Option}
use Rattle.std.proofs.Common.{Some, None, refl, sym, ap, ◌∙◌, subst, ⊎_elim, arith}
use Rattle.std.specs.List.{slice_get}
use Rattle.std.proofs.lemmas.List.{map-append, length-map, set-get_or}
use Rattle.std.proofs.lemmas.Option.{slice_get-get_or}
use Rattle.std.proofs.lemmas.Grind.{elements}
use Rattle.std.specs.Prelude.{MatchOption}
use Rattle.std.proofs.lemmas.Bool.{cases_lt}
use Rattle.atomic_table.specs.Seated.{TableId}
use Rattle.nc_gens.proofs.Offered.{length-new_passes}
use Rattle.nc_gens.specs.Seen.{PassState, KeeperState, HasMet, first_pass, new_passes}
use Rattle.nc_script.specs.machinery.Session.{AreSeated}
use Rattle.nc_script.specs.machinery.Seats.{HasMetAt, HasMetOne, HaveMetBelow, HaveMet, HasPass, HasNoPass, IsTaken}

-- what stands in a list of which one member was set
pub get_set : {X : Type 0} (xs : List X) (k i : ℕ) (y z : X) → slice_get (set xs k y) i ≡ Some z
    → ((i ≡ k) × (y ≡ z)) ⊎ (slice_get xs i ≡ Some z)
get_set [] k i y z h = inr h
get_set (x ∷ xs) zero zero y z h = inl (refl, cc)
get_set (x ∷ xs) zero (suc i) y z h = inr h
get_set (x ∷ xs) (suc k) zero y z h = inr h
get_set (x ∷ xs) (suc k) (suc i) y z h =
    ⊎_elim (λ e. inl (ap (λ (n : ℕ). suc n) e.0, e.1)) (λ g. inr g) (get_set xs k i y z h)

-- what stands in a list with one member more
get_push : {X : Type 0} (xs : List X) (i : ℕ) (y z : X) → slice_get (xs ++ y ∷ []) i ≡ Some z
    → ((i ≡ length xs) × (y ≡ z)) ⊎ (slice_get xs i ≡ Some z)
get_push [] zero y z h = inl (refl, cc)
get_push [] (suc i) y z h = absurd cc
get_push (x ∷ xs) zero y z h = inr h
get_push (x ∷ xs) (suc i) y z h = ⊎_elim (λ e. inl (ap (λ (n : ℕ). suc n) e.0, e.1)) (λ g. inr g) (get_push xs i y z h)

-- the pass that stands at a seat's place
pub there_at : (passes : List (Option PassState)) (seat : ℕ) (d : Option PassState) (p : PassState) → seat < length passes
    → get_or passes seat d ≡ Some p → HasPass passes seat p
there_at passes seat d p l is = slice_get-get_or passes seat d l ∙ ap (λ (o : Option PassState). Some o) is

-- a pass put at its seat's place
pub seated_set : (table : TableId) (passes : List (Option PassState)) (k : ℕ) (q : PassState) → AreSeated table passes
    → q.table ≡ table → q.seat ≡ k → AreSeated table (set passes k (Some q))
seated_set table passes k q seated t s i p h =
    ⊎_elim
    (λ e. let same : q ≡ p = cc in (
      ap (λ (x : PassState). x.table) (sym same) ∙ t,
      ap (λ (x : PassState). x.seat) (sym same) ∙ (s
          ∙ sym e.0),
    ))
    (λ g. seated i p g) (get_set passes k i (Some q) (Some p) h)

-- passes are still seated with one put where it stood
pub seated_same : (table : TableId) (passes : List (Option PassState)) (k : ℕ) (d : Option PassState) → AreSeated table passes
    → AreSeated table (set passes k (get_or passes k d))
seated_same table passes k d = subst (AreSeated table) (sym (set-get_or passes k d))

-- passes are still seated with one taken away
pub seated_clear : (table : TableId) (passes : List (Option PassState)) (k : ℕ) → AreSeated table passes
    → AreSeated table (set passes k None)
seated_clear table passes k seated i p h = ⊎_elim (λ e. absurd cc) (λ g. seated i p g) (get_set passes k i None (Some p) h)

-- passes are still seated without what was taken from a seat's place
pub seated_taken : (table : TableId) (old new : List (Option PassState)) (seat : ℕ) (r : Option PassState)
    → MatchOption r (HasNoPass old seat × (new ≡ old)) (IsTaken seat old new) → AreSeated table old → AreSeated table new
seated_taken table old new seat None h seated = subst (AreSeated table) (sym h.1) seated
seated_taken table old new seat (Some p) h seated = subst (AreSeated table) (sym h.1) (seated_clear table old seat seated)

-- the first passes stand at their seats' places
pub seated_first : (table : TableId) (n : ℕ) → AreSeated table (map Some (new_passes table n))
seated_first table zero i p h = absurd cc
seated_first table (suc n) i p h =
    let first = new_passes table n in
    let long : length (map Some first) ≡ n = length-map first (λ (q : PassState). Some q) ∙ length-new_passes table n in
    ⊎_elim
    (λ e. let same : first_pass table n ≡ p = cc in
    (ap (λ (x : PassState). x.table) (sym same), ap (λ (x : PassState). x.seat) (sym same) ∙ (sym long ∙ sym e.0)))
    (λ g. seated_first table n i p g)
    (get_push (map Some first) i (Some (first_pass table n)) (Some p)
    (subst (λ (xs : List (Option PassState)). slice_get xs i ≡ Some (Some p)) (map-append (λ (q : PassState). Some q) first
    (first_pass table n ∷ [])) h))

-- a pass met the keeper, and stands where it stood
pub met_here : (passes : List (Option PassState)) (seat : ℕ) (d : Option PassState) (old new : PassState) (before after : KeeperState)
    → seat < length passes → get_or passes seat d ≡ Some old → old.seat ≡ seat → HasMet old before new after
    → HasMetOne seat passes before.numbers.bounds (set passes seat (Some new)) after.numbers.bounds
met_here passes seat d old new before after l is seated met = grind (arith, elements)

-- at the beginning no pass has met the keeper
pub met_none : (passes : List (Option PassState)) (bounds : List ℕ) → HaveMetBelow 0 passes bounds passes bounds
met_none passes bounds = record {
  passes_long = refl;
  bounds_long = refl;
  each = λ i l. absurd (omega (arith, l));
  passes = λ i l. refl;
  bounds = λ i l. refl;
}

-- once one more pass has met the keeper, all below the next seat have
pub met_more : (seat : ℕ) (old : List (Option PassState)) (before : List ℕ) (mid : List (Option PassState)) (between : List ℕ)
    (new : List (Option PassState)) (after : List ℕ)
    → HaveMetBelow seat old before mid between → HasMetOne seat mid between new after → HaveMetBelow (seat + 1) old before new after
met_more seat old before mid between new after below one = record {
  passes_long = one.passes_long ∙ below.passes_long;
  bounds_long = one.bounds_long ∙ below.bounds_long;
  each = λ i l. ⊎_elim
      (λ (lt : i < seat).
      let apart : i ≢ seat = λ e. omega (arith, e, lt) in
      subst (λ (p : Option PassState). HasMetAt (get_or old i None) (get_or before i 0) p (get_or after i 0)) (sym (one.passes i apart))
      (subst (λ (b : ℕ). HasMetAt (get_or old i None) (get_or before i 0) (get_or mid i None) b) (sym (one.bounds i apart))
      (below.each i lt)))
      (λ (ge : seat ≤ i).
      let same : i ≡ seat = omega (arith, l, ge) in
      subst (λ (k : ℕ). HasMetAt (get_or old k None) (get_or before k 0) (get_or new k None) (get_or after k 0)) (sym same)
      (subst (λ (p : Option PassState). HasMetAt p (get_or before seat 0) (get_or new seat None) (get_or after seat 0))
      (below.passes seat (omega arith))
      (subst (λ (b : ℕ). HasMetAt (get_or mid seat None) b (get_or new seat None) (get_or after seat 0)) (below.bounds seat
      (omega arith)) one.here)))
      (cases_lt i seat);
  passes = λ i l. one.passes i (λ e. omega (arith, e, l)) ∙ below.passes i (omega (arith, l));
  bounds = λ i l. one.bounds i (λ e. omega (arith, e, l)) ∙ below.bounds i (omega (arith, l));
}

-- once the pass of each seat has met the keeper, all have
pub met_all : (seat : ℕ) (old : List (Option PassState)) (before : List ℕ) (new : List (Option PassState)) (after : List ℕ)
    → seat ≡ length old → HaveMetBelow seat old before new after → HaveMet old before new after
met_all seat old before new after all below =
    record { passes_long = below.passes_long; bounds_long = below.bounds_long; each = λ i l. below.each i (omega (arith, l, all)) }

-- where no pass stands at a seat's place, the seat has none
pub none_there : (passes : List (Option PassState)) (seat : ℕ) (r : Option PassState) → seat < length passes → r ≡ get_or passes seat r
    → ((p : PassState) → r ≢ Some p) → HasNoPass passes seat
none_there passes seat r l is none p h =
    let there : Some r ≡ Some (Some p) = ap (λ (o : Option PassState). Some o) is ∙ (sym (slice_get-get_or passes seat r l) ∙ h) in
    none p cc

-- a seat past the last one has no pass
pub none_past : (passes : List (Option PassState)) (seat : ℕ) → length passes ≤ seat → HasNoPass passes seat
none_past [] seat l p h = absurd cc
none_past (q ∷ passes) zero l p h = absurd (omega (arith, l))
none_past (q ∷ passes) (suc seat) l p h = none_past passes seat (omega (arith, l)) p h

-- what is taken from a seat's place
pub taken : (passes : List (Option PassState)) (seat : ℕ) (d r new : Option PassState) → seat < length passes → r ≡ get_or passes seat d
    → new ≡ None
    → MatchOption r (HasNoPass passes seat × (set passes seat new ≡ passes)) (IsTaken seat passes (set passes seat new))
taken passes seat d None new l is gone = (
  λ p h. let there : Some None ≡ Some (Some p) = ap (λ (o : Option PassState). Some o) is ∙ (sym (slice_get-get_or passes seat d l)
      ∙ h) in absurd cc,
  ap (λ (o : Option PassState). set passes seat o) (gone ∙ is) ∙ set-get_or passes seat d,
)
taken passes seat d (Some p) new l is gone = (
  slice_get-get_or passes seat d l ∙ ap (λ (o : Option PassState). Some o) (sym is),
  ap (λ (o : Option PassState). set passes seat o) gone,
)
