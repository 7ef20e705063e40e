-- The keeper's last load of a seat's word, and the bounds that it leaves: at least what the word was at any moment before.
use Rattle.std.proofs.Common.{◌≡◌, ◌≢◌, ℕ, zero, suc, ◌<◌, ◌≤◌, Bool, true, false, cond, List, [], ◌∷◌, ◌++◌, filter, map, length, get_or}
use Rattle.std.proofs.Common.{◌⊎◌, inl, inr, ⊎_elim, sym, refl, ap, ◌∙◌, subst, arith, append_assoc, length-set, get_or-set_other, get_or-set_same, le_trans}
use Rattle.std.specs.Prelude.{Contains, slice_index_or}
use Rattle.std.specs.List.{range_with_len}
use mathlib.Core.Logic.{dite}
use native.Mathlib.Decide.{ℕ_discrete}
use lib.ListN.{length-replicate}
use Rattle.std.proofs.lemmas.List.Elements.{Contains-append_right}
use Rattle.std.proofs.lemmas.List.FromFn.{get_or-map-range_with_len, length-map-range_with_len}
use Rattle.nc_gens.specs.declared.view.WordStep.{WordStep}
use Rattle.nc_gens.specs.declared.view.WordStep.TheVariants.{TookGeneration, SawGeneration, StoredSince, StoredLeft, AddedOne, TookWord}
use Rattle.nc_gens.specs.Trail.{AllNumbers, Adds, is_by_keeper, numbers_after, numbers_after_all, numbers_by, seat_word, IsRising}
use Rattle.nc_gens.specs.Seen.{KeeperState, IsLedTo, HasLooked, least_number}
use Rattle.nc_gens.specs.Progress.{IsBeforeLook, HasFound}
use Rattle.nc_gens.proofs.Trails.{first_numbers, after_both}
use Rattle.nc_gens.proofs.LeastNumber.{least_above}

-- ---- the last load of a seat's word

-- an element of a list is the first one or one of the rest
first_or_rest : (step : WordStep) (steps : List WordStep) (x : WordStep) → Contains (step ∷ steps) x → (step ≡ x) ⊎ Contains steps x
first_or_rest step steps x h = go h.0 h.1 h.2
  where
    go : (j : ℕ) → j < length (step ∷ steps) → slice_index_or (step ∷ steps) j x ≡ x → (step ≡ x) ⊎ Contains steps x
    go zero lt e = inl e
    go (suc j) lt e = inr (j, omega (arith, lt), e)

-- a step is a load of this seat's word or not
took_or_not : (k : ℕ) (step : WordStep) → (step ≡ TookWord k) ⊎ (step ≢ TookWord k)
took_or_not k (TookWord seat) = dite (ℕ_discrete seat k) (λ e. inl (ap (λ (z : ℕ). TookWord z) e)) (λ ne. inr (λ e. ne cc))
took_or_not k (TookGeneration seat) = inr (λ e. cc)
took_or_not k (SawGeneration seat) = inr (λ e. cc)
took_or_not k (StoredSince seat) = inr (λ e. cc)
took_or_not k (StoredLeft seat) = inr (λ e. cc)
took_or_not k AddedOne = inr (λ e. cc)

-- a list of steps whose last load of this seat's word is told apart
record HasLastLoad (k : ℕ) (steps : List WordStep) : Type 0 where
  pub before : List WordStep
  pub after : List WordStep
  pub parts : steps ≡ before ++ TookWord k ∷ after
  pub last : ¬ Contains after (TookWord k)

-- steps have no load of a seat's word, or a last one
none_or_last : (k : ℕ) (steps : List WordStep) → (¬ Contains steps (TookWord k)) ⊎ HasLastLoad k steps
none_or_last k [] = inl (λ h. let lt = h.1 in absurd (omega (arith, lt)))
none_or_last k (step ∷ steps) =
    ⊎_elim
    (λ (none : ¬ Contains steps (TookWord k)). ⊎_elim
    (λ (is : step ≡ TookWord k). inr record { before = []; after = steps; parts = ap (λ (s : WordStep). s ∷ steps) is; last = none })
    (λ (isnt : step ≢ TookWord k). inl (λ h. ⊎_elim isnt none (first_or_rest step steps (TookWord k) h)))
    (took_or_not k step))
    (λ (l : HasLastLoad k steps).
    inr record { before = step ∷ l.before; after = l.after; parts = ap (λ (r : List WordStep). step ∷ r) l.parts; last = l.last })
    (none_or_last k steps)

-- steps with a load of a seat's word have a last one
last_load : (k : ℕ) (steps : List WordStep) → Contains steps (TookWord k) → HasLastLoad k steps
last_load k steps some =
    ⊎_elim (λ (none : ¬ Contains steps (TookWord k)). absurd (none some)) (λ (l : HasLastLoad k steps). l) (none_or_last k steps)

-- ---- the bounds after steps

-- the keeper has as many bounds after a step
as_many_bounds : (n : AllNumbers) (step : WordStep) → length (numbers_after n step).keeper.bounds ≡ length n.keeper.bounds
as_many_bounds n (TookGeneration k) = refl
as_many_bounds n (SawGeneration k) = refl
as_many_bounds n (StoredSince k) = refl
as_many_bounds n (StoredLeft k) = refl
as_many_bounds n AddedOne = refl
as_many_bounds n (TookWord k) = length-set n.keeper.bounds k _

as_many_bounds_all : (n : AllNumbers) (steps : List WordStep) → length (numbers_after_all n steps).keeper.bounds ≡ length n.keeper.bounds
as_many_bounds_all n [] = refl
as_many_bounds_all n (step ∷ steps) = as_many_bounds_all (numbers_after n step) steps ∙ as_many_bounds n step

-- every trail leads to a bound for each seat
bounds_by : (seats : ℕ) (trail : List WordStep) → length (numbers_by seats trail).keeper.bounds ≡ seats
bounds_by seats trail = as_many_bounds_all (first_numbers seats) trail ∙ length-replicate seats 0

-- a step that is no load of a seat's word leaves its bound
same_bound_after : (n : AllNumbers) (k : ℕ) (step : WordStep) → step ≢ TookWord k
    → get_or (numbers_after n step).keeper.bounds k 0 ≡ get_or n.keeper.bounds k 0
same_bound_after n k (TookGeneration seat) isnt = refl
same_bound_after n k (SawGeneration seat) isnt = refl
same_bound_after n k (StoredSince seat) isnt = refl
same_bound_after n k (StoredLeft seat) isnt = refl
same_bound_after n k AddedOne isnt = refl
same_bound_after n k (TookWord seat) isnt =
    get_or-set_other n.keeper.bounds seat k _ 0 (λ e. isnt (ap (λ (z : ℕ). TookWord z) (sym e)))

-- so do such steps, one after the other
same_bound : (n : AllNumbers) (k : ℕ) (steps : List WordStep) → ¬ Contains steps (TookWord k)
    → get_or (numbers_after_all n steps).keeper.bounds k 0 ≡ get_or n.keeper.bounds k 0
same_bound n k [] none = refl
same_bound n k (step ∷ steps) none =
    same_bound (numbers_after n step) k steps (λ h. none (Contains-append_right (step ∷ []) steps (TookWord k) h))
    ∙ same_bound_after n k step (λ e. none (0, omega arith, e))

-- after a load of a seat's word and no other one, its bound is the word that the load found
bound_loaded : (seats k : ℕ) (before after : List WordStep) → k < seats → ¬ Contains after (TookWord k)
    → get_or (numbers_by seats (before ++ TookWord k ∷ after)).keeper.bounds k 0 ≡ seat_word seats before k
bound_loaded seats k before after inside none =
    let many = bounds_by seats before in
    ap (λ (n : AllNumbers). get_or n.keeper.bounds k 0) (after_both (first_numbers seats) before (TookWord k ∷ after))
    ∙ (same_bound (numbers_after (numbers_by seats before) (TookWord k)) k after none
    ∙ get_or-set_same (numbers_by seats before).keeper.bounds k (seat_word seats before k) 0 (omega (arith, many)))

-- where a seat's word was loaded after the known part of a trail, the bound is what the last load found
pub found_after : (seats k : ℕ) (known rest : List WordStep) → k < seats → Contains rest (TookWord k)
    → HasFound seats known (known ++ rest) k (get_or (numbers_by seats (known ++ rest)).keeper.bounds k 0)
found_after seats k known rest inside some =
    let l = last_load k rest some in
    let parts : known ++ rest ≡ (known ++ l.before) ++ TookWord k ∷ l.after =
    ap (λ (r : List WordStep). known ++ r) l.parts ∙ sym (append_assoc known l.before (TookWord k ∷ l.after)) in record {
      before = l.before;
      after = l.after;
      parts = parts;
      found = ap (λ (h : List WordStep). get_or (numbers_by seats h).keeper.bounds k 0) parts
          ∙ bound_loaded seats k (known ++ l.before) l.after inside l.last;
      last = l.last;
    }

-- what is found is at least the word where the known part ends
pub found_above : (seats k number : ℕ) (known trail : List WordStep) → IsRising seats trail → HasFound seats known trail k number
    → seat_word seats known k ≤ number
found_above seats k number known trail rising f =
    let up = rising k known f.before (TookWord k ∷ f.after) (f.parts ∙ append_assoc known f.before (TookWord k ∷ f.after)) in
    let is = f.found in omega (arith, up, is)

-- ---- the loads of a look

-- a step that passes the test stands in the list that is filtered
pub unfiltered : (mine : WordStep → Bool) (steps : List WordStep) (x : WordStep) → Contains (filter mine steps) x → Contains steps x
unfiltered mine [] x some = some
unfiltered mine (step ∷ steps) x some = go (mine step) (unfiltered mine steps x) some
  where
    later : Contains steps x → Contains (step ∷ steps) x
    later h = Contains-append_right (step ∷ []) steps x h

    go : (b : Bool) → (Contains (filter mine steps) x → Contains steps x)
        → Contains (cond b (step ∷ filter mine steps) (filter mine steps)) x → Contains (step ∷ steps) x
    go true rest h = ⊎_elim (λ (e : step ≡ x). (0, omega arith, e)) (λ (r : Contains (filter mine steps) x). later (rest r))
        (first_or_rest step (filter mine steps) x h)
    go false rest h = later (rest h)

-- a look loads the word of each seat
pub loads_each : (seats k : ℕ) → k < seats → Contains (map TookWord (range_with_len 0 seats)) (TookWord k)
loads_each seats k inside = let long = length-map-range_with_len TookWord 0 seats in
    (k, omega (arith, long), get_or-map-range_with_len TookWord 0 seats k k (TookWord k) inside (omega arith))

-- where the keeper's steps end with the loads of a look, each seat's word was loaded
pub each_loaded : (seats k : ℕ) (rest others : List WordStep) → k < seats
    → filter is_by_keeper rest ≡ others ++ map TookWord (range_with_len 0 seats) → Contains rest (TookWord k)
each_loaded seats k rest others inside loads =
    unfiltered is_by_keeper rest (TookWord k)
    (subst (λ (l : List WordStep). Contains l (TookWord k)) (sym loads)
    (Contains-append_right others (map TookWord (range_with_len 0 seats)) (TookWord k) (loads_each seats k inside)))

-- the bound of a seat, if the keeper has the numbers that its trail leads to and loaded the word after the known part of it
bound_found : (new : KeeperState) (known rest : List WordStep) (k : ℕ) → IsLedTo new → k < length new.numbers.bounds
    → new.trail ≡ known ++ rest → Contains rest (TookWord k)
    → HasFound (length new.numbers.bounds) known new.trail k (get_or new.numbers.bounds k 0)
bound_found new known rest k led inside parts some =
    let seats : ℕ = length new.numbers.bounds in
    subst (λ (n : ℕ). HasFound seats known new.trail k n) (sym (ap (λ n. get_or n.bounds k 0) led))
    (subst (λ (h : List WordStep). HasFound seats known h k (get_or (numbers_by seats h).keeper.bounds k 0)) (sym parts)
    (found_after seats k known rest inside some))

-- the loads of a look come after the trail that the keeper recalled
before_loads : (seats : ℕ) (old new : List WordStep) → Adds is_by_keeper old new (map TookWord (range_with_len 0 seats))
    → IsBeforeLook seats old new
before_loads seats old new adds = record { rest = adds.later; parts = adds.all; others = []; loads = adds.own_are }

-- the loads of a look find each seat's word
pub looked_found : (old new : KeeperState) (k : ℕ)
    → Adds is_by_keeper old.trail new.trail (map TookWord (range_with_len 0 (length new.numbers.bounds))) → IsLedTo new
    → k < length new.numbers.bounds
    → HasFound (length new.numbers.bounds) old.trail new.trail k (get_or new.numbers.bounds k 0)
looked_found old new k adds led inside =
    let b = before_loads (length new.numbers.bounds) old.trail new.trail adds in
    bound_found new old.trail b.rest k led inside b.parts (each_loaded (length new.numbers.bounds) k b.rest b.others inside b.loads)

-- so a look comes after that trail
pub is_before : (old new : KeeperState) → HasLooked old new → IsBeforeLook (length new.numbers.bounds) old.trail new.trail
is_before old new looked = before_loads (length new.numbers.bounds) old.trail new.trail looked.steps.adds

-- If each seat has checked in since a stamp, or has left, where the known part of a trail ends, or had a bound of at least the
-- stamp, and each seat's word was loaded after that part, then the least number is at least the stamp.
pub past_from : (old new : KeeperState) (stamp : ℕ) (known rest : List WordStep) → HasLooked old new → stamp ≤ new.numbers.generation
    → new.trail ≡ known ++ rest → ((k : ℕ) → k < length new.numbers.bounds → Contains rest (TookWord k))
    → ((k : ℕ) → k < length new.numbers.bounds
    → (stamp ≤ seat_word (length new.numbers.bounds) known k) ⊎ (stamp ≤ get_or old.numbers.bounds k 0))
    → stamp ≤ least_number new.numbers
past_from old new stamp known rest looked drawn parts loaded passed =
    least_above stamp new.numbers.generation new.numbers.bounds drawn
    (λ k inside. ⊎_elim
    (λ (p : stamp ≤ seat_word (length new.numbers.bounds) known k). le_trans p
    (found_above (length new.numbers.bounds) k (get_or new.numbers.bounds k 0) known new.trail looked.rising
    (bound_found new known rest k looked.led_to inside parts (loaded k inside))))
    (λ (p : stamp ≤ get_or old.numbers.bounds k 0). let same = looked.raised.0 in le_trans p (looked.raised.1 k (omega (arith, same))))
    (passed k inside))
