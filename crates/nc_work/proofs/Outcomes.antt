-- Outcomes of jobs in their places, and one job after the other.
use Rattle.std.proofs.Common.{◌≡◌, ℕ, zero, suc, ◌<◌, List, [], ◌∷◌, ◌++◌, length, get_or, set, take, drop, refl, ap, arith, Option, Some}
use Rattle.std.proofs.Common.{None, sym, subst, ◌∙◌}
use Rattle.std.specs.Prelude.{slice_get, Result}
use Rattle.std.specs.Option.{ForSome}
use Rattle.std.proofs.lemmas.Option.{slice_get_read, get_or_from_slice_get, same_Some}
use Rattle.nc_vet.specs.declared.vetted.Marks.{Marks}
use Rattle.nc_vet.specs.declared.fault.VetFault.{VetFault}
use Rattle.nc_work.specs.declared.job.Job.{Job}
use Rattle.nc_work.specs.Outcomes.{IsOutcomeOf, FitsJob, AreOutcomes}
use Rattle.nc_work.proofs.Places.{set_each}

-- outcomes in their places stay so with the outcome on a job put into the place of the job
pub outcomes_set : (jobs : List Job) (outcomes : List (Option (Result Marks VetFault))) (at : ℕ) (outcome : Option (Result Marks VetFault))
    → AreOutcomes jobs outcomes → FitsJob jobs at outcome → AreOutcomes jobs (set outcomes at outcome)
outcomes_set jobs outcomes at outcome h p = record { each = set_each (FitsJob jobs) outcomes at outcome None h.each p }

-- the outcome in the place of a job is that on it
pub fits_job : (jobs : List Job) (n : ℕ) (job : Job) (found : Option (Result Marks VetFault)) → slice_get jobs n ≡ Some job
    → FitsJob jobs n found → ForSome found (IsOutcomeOf job)
fits_job jobs n job None is h = λ a e. absurd (cc)
fits_job jobs n job (Some outcome) is h =
    λ a e. subst (λ (r : Result Marks VetFault). IsOutcomeOf job r) (same_Some outcome a e)
    (subst (λ (j : Job). IsOutcomeOf j outcome) (same_Some h.0 job (sym h.1 ∙ is)) h.2)

-- the next of a list's elements, where n of them have been taken
pub record IsNextElement {X : Type 0} (xs : List X) (n : ℕ) (x : X) (rest : List X) : Type 0 where
  pub below : n < length xs
  pub here : slice_get xs n ≡ Some x
  pub front : take (suc n) xs ≡ take n xs ++ x ∷ []
  pub behind : rest ≡ drop (suc n) xs

-- the first of the elements that are left is the next one
pub next_of : {X : Type 0} (xs : List X) (n : ℕ) (x : X) (rest : List X) → drop n xs ≡ x ∷ rest → IsNextElement xs n x rest
next_of [] zero x rest e = absurd (cc)
next_of [] (suc n) x rest e = absurd (cc)
next_of (y ∷ ys) zero x rest e = record { below = omega arith; here = cc; front = cc; behind = cc }
next_of (y ∷ ys) (suc n) x rest e =
    let r = next_of ys n x rest e in
    record { below = omega (arith, r.below); here = r.here; front = ap (λ (z : List _). y ∷ z) r.front; behind = r.behind }

-- the first of the elements that are left, known by an equation, is the next one
pub next_at : {X : Type 0} (xs left rest : List X) (n : ℕ) (x : X) → left ≡ drop n xs → left ≡ x ∷ rest → IsNextElement xs n x rest
next_at xs left rest n x at e = next_of xs n x rest (sym at ∙ e)

-- what is read in the place of the next job is the outcome on it
pub found_fits : (jobs : List Job) (outcomes : List (Option (Result Marks VetFault))) (n m : ℕ) (job : Job)
    (at found : Option (Result Marks VetFault))
    → AreOutcomes jobs outcomes → m ≡ n → m < length outcomes → at ≡ get_or outcomes m at → found ≡ at → slice_get jobs n ≡ Some job
    → ForSome found (IsOutcomeOf job)
found_fits jobs outcomes n m job at found h same below is e here =
    let read : get_or outcomes m None ≡ at =
    get_or_from_slice_get outcomes m at None (slice_get_read outcomes (length outcomes) m at refl below is) in
    fits_job jobs m job found (subst (λ (k : ℕ). slice_get jobs k ≡ Some job) (sym same) here)
    (subst (FitsJob jobs m) (read ∙ sym e) (h.each m))
