-- Outcomes in their places, and one after the other.
use Rattle.std.proofs.Common.{◌≡◌, ℕ, zero, suc, List, [], ◌∷◌, ◌++◌, length, get_or, set, take, drop, refl, ap, arith, Option, Some, None, sym, subst}
use Rattle.std.specs.Prelude.{All}
use Rattle.std.specs.Borrow.{MutBor}
use denote.Param.Members.{Shared}
use Rattle.std.proofs.lemmas.List.Elements.{All-push, All-head, All-rest, All-take, All-append, All-drop}
use Rattle.nc_work.specs.declared.pool.Done.{Done}
use Rattle.nc_work.specs.declared.pool.Worker.{Worker}
use Rattle.nc_work.specs.Found.{AreDone, ArePlaces}
use Rattle.nc_work.specs.Places.{FitsPlace}

-- what holds of each place holds after one of them has changed
pub set_each : {X : Type 0} (P : ℕ → X → Type 0) (xs : List X) (i : ℕ) (y d : X) → ((k : ℕ) → P k (get_or xs k d)) → P i y → (k : ℕ)
    → P k (get_or (set xs i y) k d)
set_each P [] i y d h p k = h k
set_each P (x ∷ xs) zero y d h p zero = p
set_each P (x ∷ xs) zero y d h p (suc k) = h (suc k)
set_each P (x ∷ xs) (suc i) y d h p zero = h zero
set_each P (x ∷ xs) (suc i) y d h p (suc k) = set_each (λ j. P (suc j)) xs i y d (λ j. h (suc j)) p k

-- where each place is empty, so is the one at any number
none_at : {X : Type 0} (places : List (Option X)) → All (λ a. a ≡ None) places → (k : ℕ) → get_or places k None ≡ None
none_at [] none k = refl
none_at (a ∷ rest) none zero = none zero None (omega arith)
none_at (a ∷ rest) none (suc k) = none_at rest (λ j d below. none (suc j) d (omega (arith, below))) k

module _ {F S R : Type 0} (g : Shared F (ℕ × (MutBor S × Unit {0})) (Option R × (MutBor S × Unit {0}))) (f : F) where
  -- what a call gives fits its place
  pub given_fits : (place : ℕ) (given : Option R) (before after : MutBor S) → g.post f (place, (before, tt)) (given, (after, tt))
      → FitsPlace g f place given
  given_fits place None before after called = tt
  given_fits place (Some outcome) before after called = record { before = before; after = after; call = called }

  place_holds : (P : ℕ → Option R → Type 0) → ((k : ℕ) → P k None)
      → ((k : ℕ) (outcome : R) (before after : MutBor S) → g.post f (k, (before, tt)) (Some outcome, (after, tt)) → P k (Some outcome))
      → (k : ℕ) (place : Option R) → FitsPlace g f k place → P k place
  place_holds P none some k None fits = none k
  place_holds P none some k (Some outcome) fits = some k outcome fits.before fits.after fits.call

  -- what holds of all that a call may give for a place, and of no outcome, holds of each place
  pub places_hold : (P : ℕ → Option R → Type 0) → ((k : ℕ) → P k None)
      → ((k : ℕ) (outcome : R) (before after : MutBor S) → g.post f (k, (before, tt)) (Some outcome, (after, tt)) → P k (Some outcome))
      → (places : List (Option R)) → ((k : ℕ) → FitsPlace g f k (get_or places k None)) → (k : ℕ) → P k (get_or places k None)
  places_hold P none some places fits k = place_holds P none some k (get_or places k None) (fits k)

  -- outcomes in their places stay so with an outcome put into its place
  pub places_set : (places : List (Option R)) (at : ℕ) (place : Option R) → ArePlaces g f places → FitsPlace g f at place
      → ArePlaces g f (set places at place)
  places_set places at place h p = record { each = set_each (FitsPlace g f) places at place None h.each p }

  -- where no place has an outcome, none has a wrong one
  pub none_placed : (places : List (Option R)) → All (λ a. a ≡ None) places → ArePlaces g f places
  none_placed places none = record { each = λ k. subst (λ (a : Option R). FitsPlace g f k a) (sym (none_at places none k)) tt }

  -- a worker that has found nothing has found nothing wrong
  none_done : (done : List (Done R)) → done ≡ [] → AreDone g f done
  none_done done e = record { each = λ k d below. absurd (omega (arith, below, ap (λ (z : List (Done R)). length z) e)) }

  pub none_worked : (workers : List (Worker S R)) → All (λ worker. worker.done.items ≡ []) workers
      → All (λ worker. AreDone g f worker.done.items) workers
  none_worked workers none = λ k d below. none_done (get_or workers k d).done.items (none k d below)

  -- a worker's list goes on by one more outcome
  pub done_more : (done : List (Done R)) (place : ℕ) (outcome : R) → AreDone g f done → FitsPlace g f place (Some outcome)
      → AreDone g f (done ++ record { place = place; outcome = outcome } ∷ [])
  done_more done place outcome h fits =
      record { each = All-push (λ d. FitsPlace g f d.place (Some d.outcome)) done (record { place = place; outcome = outcome }) h.each fits }

  -- the first outcome of a worker's list is one of its place
  pub done_head : (all rest : List (Done R)) (one : Done R) → all ≡ one ∷ rest → AreDone g f all → FitsPlace g f one.place (Some one.outcome)
  done_head all rest one e h = All-head (λ (d : Done R). FitsPlace g f d.place (Some d.outcome)) one rest
      (subst (λ (z : List (Done R)). All (λ d. FitsPlace g f d.place (Some d.outcome)) z) e h.each)

  -- the outcomes of a worker's list behind the first are those of their places
  pub done_tail : (all rest : List (Done R)) (one : Done R) → all ≡ one ∷ rest → AreDone g f all → AreDone g f rest
  done_tail all rest one e h =
      record { each = All-rest (λ (d : Done R). FitsPlace g f d.place (Some d.outcome)) one rest all e h.each }

  -- what the workers' lists hold once they are read out of the slice again
  pub workers_back : (old new : List (Worker S R)) (n : ℕ) → All (λ worker. worker.done.items ≡ []) old
      → All (λ worker. AreDone g f worker.done.items) new → All (λ worker. AreDone g f worker.done.items) (take n (new ++ drop (length new) old))
  workers_back old new n none done =
      let P : Worker S R → Type 0 = λ worker. AreDone g f worker.done.items in
      All-take P n (new ++ drop (length new) old)
      (All-append P new (drop (length new) old) done (All-drop P (length new) old (none_worked old none)))
