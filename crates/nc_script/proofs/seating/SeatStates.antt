-- The seats of a script, beside the passes and bounds of a session.
use Rattle.std.proofs.Common.{◌≡◌, ◌≢◌, ℕ, ◌<◌, List, length, get_or, set, Option, Some, None, sym, ◌∙◌, subst, arith}
use mathlib.Core.Logic.{dite}
use native.Mathlib.Decide.{ℕ_discrete}
use Rattle.std.specs.List.{slice_get}
use Rattle.std.proofs.lemmas.List.{get_or-set_same, get_or-set_other, length-set}
use Rattle.std.proofs.lemmas.Option.{slice_get-get_or, slice_get_within, get_or_from_slice_get}
use Rattle.nc_gens.specs.Seen.{PassState}
use Rattle.nc_script.specs.Script.{ScriptSeat, Staying, Left}
use Rattle.nc_script.specs.Reuse.{IsThere}
use Rattle.nc_script.specs.machinery.Session.{SeatFits, SeatsFit}
use Rattle.nc_script.specs.machinery.Seats.{HasPass, HasNoPass}

-- a list with a member set has what holds of that member, and of the others as they were
set_or_kept : {X : Type 0} (P : X → Type 0) (xs : List X) (k i : ℕ) (y d : X) → k < length xs → (i ≡ k → P y) → (i ≢ k → P (get_or xs i d))
    → P (get_or (set xs k y) i d)
set_or_kept P xs k i y d inside here other =
    dite (ℕ_discrete i k)
    (λ e. subst (λ (j : ℕ). P (get_or (set xs k y) j d)) (sym e) (subst P (sym (get_or-set_same xs k y d inside)) (here e)))
    (λ ne. subst P (sym (get_or-set_other xs k i y d ne)) (other ne))

-- one seat changes, with its pass and its bound
pub seats_set : (generation freed : ℕ) (passes : List (Option PassState)) (bounds : List ℕ) (seats : List ScriptSeat) (k : ℕ)
    (p : Option PassState) (b : ℕ) (s : ScriptSeat) → k < length seats → SeatFits generation freed p b s
    → SeatsFit generation freed passes bounds seats → SeatsFit generation freed (set passes k p) (set bounds k b) (set seats k s)
seats_set generation freed passes bounds seats k p b s inside here fits = record {
  some = omega (arith, fits.some, length-set seats k s);
  passes_long = length-set passes k p ∙ (fits.passes_long ∙ sym (length-set seats k s));
  bounds_long = length-set bounds k b ∙ (fits.bounds_long ∙ sym (length-set seats k s));
  each = λ i l.
      let l' : i < length seats = omega (arith, l, length-set seats k s) in
      dite (ℕ_discrete i k)
      (λ e. subst (λ (j : ℕ). SeatFits generation freed (get_or (set passes k p) j None) (get_or (set bounds k b) j 0)
      (get_or (set seats k s) j (Left 0))) (sym e)
      (subst (λ (x : Option PassState). SeatFits generation freed x (get_or (set bounds k b) k 0) (get_or (set seats k s) k (Left 0)))
      (sym (get_or-set_same passes k p None (omega (arith, inside, fits.passes_long))))
      (subst (λ (x : ℕ). SeatFits generation freed p x (get_or (set seats k s) k (Left 0)))
      (sym (get_or-set_same bounds k b 0 (omega (arith, inside, fits.bounds_long))))
      (subst (λ (x : ScriptSeat). SeatFits generation freed p b x) (sym (get_or-set_same seats k s (Left 0) inside)) here))))
      (λ ne.
      subst (λ (x : Option PassState). SeatFits generation freed x (get_or (set bounds k b) i 0) (get_or (set seats k s) i (Left 0)))
      (sym (get_or-set_other passes k i p None ne))
      (subst (λ (x : ℕ). SeatFits generation freed (get_or passes i None) x (get_or (set seats k s) i (Left 0)))
      (sym (get_or-set_other bounds k i b 0 ne))
      (subst (λ (x : ScriptSeat). SeatFits generation freed (get_or passes i None) (get_or bounds i 0) x)
      (sym (get_or-set_other seats k i s (Left 0) ne)) (fits.each i l'))));
}

-- a seat that has its pass is there
pub seat_there : (generation freed : ℕ) (passes : List (Option PassState)) (bounds : List ℕ) (seats : List ScriptSeat) (k : ℕ) (p : PassState)
    → SeatsFit generation freed passes bounds seats → HasPass passes k p
    → (n : ℕ) × (slice_get seats k ≡ Some (Staying n)) × (k < length seats)
    × SeatFits generation freed (Some p) (get_or bounds k 0) (Staying n)
seat_there generation freed passes bounds seats k p fits has =
    let within : k < length passes = slice_get_within passes k (Some p) has in
    let inside : k < length seats = omega (arith, within, fits.passes_long) in
    let here = subst (λ (x : Option PassState). SeatFits generation freed x (get_or bounds k 0) (get_or seats k (Left 0)))
    (get_or_from_slice_get passes k (Some p) None has) (fits.each k inside) in
    go (get_or seats k (Left 0)) inside (slice_get-get_or seats k (Left 0) inside) here
  where
    go : (s : ScriptSeat) → k < length seats → slice_get seats k ≡ Some s → SeatFits generation freed (Some p) (get_or bounds k 0) s
        → (n : ℕ) × (slice_get seats k ≡ Some (Staying n)) × (k < length seats)
        × SeatFits generation freed (Some p) (get_or bounds k 0) (Staying n)
    go (Staying n) inside e h = (n, e, inside, h)
    go (Left n) inside e h = absurd h

-- a seat without a pass isn't there
pub seat_gone : (generation freed : ℕ) (passes : List (Option PassState)) (bounds : List ℕ) (seats : List ScriptSeat) (k : ℕ)
    → SeatsFit generation freed passes bounds seats → HasNoPass passes k → ¬ IsThere seats k
seat_gone generation freed passes bounds seats k fits none there =
    let n = there.0 in
    let inside : k < length seats = slice_get_within seats k (Staying n) there.1 in
    let within : k < length passes = omega (arith, inside, fits.passes_long) in
    let here = subst (λ (s : ScriptSeat). SeatFits generation freed (get_or passes k None) (get_or bounds k 0) s)
    (get_or_from_slice_get seats k (Staying n) (Left 0) there.1) (fits.each k inside) in
    go (get_or passes k None) (slice_get-get_or passes k None within) here
  where
    go : (p : Option PassState) → slice_get passes k ≡ Some p → SeatFits generation freed p (get_or bounds k 0) (Staying there.0) → ⊥
    go (Some p) e h = none p e
    go None e h = h
