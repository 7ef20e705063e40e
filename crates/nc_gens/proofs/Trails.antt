-- Trails that grow by a step, and the numbers that they lead to.
use Rattle.std.proofs.Common.{◌≡◌, ℕ, zero, suc, ◌<◌, ◌==◌, Bool, true, false, cond, List, [], ◌∷◌, ◌++◌, filter, All, length, replicate, get_or, ◌⊎◌, inl, inr, sym, refl, ap, ◌∙◌}
use Rattle.std.proofs.Common.{subst, arith, append_assoc, length-set, get_or-set_other, get_or-set_same}
use Rattle.std.specs.Prelude.{⊤}
use Rattle.std.proofs.lemmas.Bool.{eq-eqb}
use Rattle.std.proofs.lemmas.List.Elements.{filter-append, All-nil, All-cons, All-head, All-tail}
use Rattle.nc_gens.specs.declared.view.PassNumbers.{PassNumbers}
use Rattle.nc_gens.specs.declared.view.KeeperNumbers.{KeeperNumbers}
use Rattle.nc_gens.specs.declared.view.WordStep.{WordStep}
use Rattle.nc_gens.specs.declared.view.WordStep.TheVariants.{TookGeneration, SawGeneration, StoredSince, StoredLeft, AddedOne, TookWord}
use Rattle.nc_gens.specs.Rule.{first_pass_numbers, generation_raised}
use Rattle.nc_gens.specs.Trail.{is_by_pass, is_by_keeper, Adds, NoneSince, AllNumbers, pass_in, with_pass, numbers_after, numbers_after_all, numbers_by}
use Rattle.nc_gens.specs.Seen.{KeeperState, HasRaised, KeeperSteps}

-- the numbers of a new table
abbrev pub first_numbers : ℕ → AllNumbers
first_numbers seats = numbers_by seats []

-- the numbers after the steps of two lists
pub after_both : (n : AllNumbers) (one two : List WordStep)
    → numbers_after_all n (one ++ two) ≡ numbers_after_all (numbers_after_all n one) two
after_both n [] two = refl
after_both n (step ∷ one) two = after_both (numbers_after n step) one two

-- the numbers that a trail leads to, once a step is added
pub by_longer : (seats : ℕ) (trail : List WordStep) (step : WordStep)
    → numbers_by seats (trail ++ step ∷ []) ≡ numbers_after (numbers_by seats trail) step
by_longer seats trail step = after_both (first_numbers seats) trail (step ∷ [])

-- a step adds no pass and takes none away
pub as_many_after : (n : AllNumbers) (step : WordStep) → length (numbers_after n step).passes ≡ length n.passes
as_many_after n (TookGeneration k) = length-set n.passes k _
as_many_after n (SawGeneration k) = length-set n.passes k _
as_many_after n (StoredSince k) = length-set n.passes k _
as_many_after n (StoredLeft k) = length-set n.passes k _
as_many_after n AddedOne = refl
as_many_after n (TookWord k) = refl

as_many_after_all : (n : AllNumbers) (steps : List WordStep) → length (numbers_after_all n steps).passes ≡ length n.passes
as_many_after_all n [] = refl
as_many_after_all n (step ∷ steps) = as_many_after_all (numbers_after n step) steps ∙ as_many_after n step

-- every trail leads to numbers for each seat
pub as_many_by : (seats : ℕ) (trail : List WordStep) → length (numbers_by seats trail).passes ≡ seats
as_many_by seats trail = as_many_after_all (first_numbers seats) trail ∙ length-copies seats
  where
    length-copies : (k : ℕ) → length (replicate k first_pass_numbers) ≡ k
    length-copies zero = refl
    length-copies (suc k) = ap suc (length-copies k)

-- the pass of a seat that is written
pub this_pass : (n : AllNumbers) (k : ℕ) (p : PassNumbers) → k < length n.passes → pass_in (with_pass n k p) k ≡ p
this_pass n k p inside = get_or-set_same n.passes k p first_pass_numbers inside

-- the pass of another seat than the one that is written
other_seat : (n : AllNumbers) (k seat : ℕ) (p : PassNumbers) → (seat == k) ≡ false → pass_in (with_pass n seat p) k ≡ pass_in n k
other_seat n k seat p differs = get_or-set_other n.passes seat k p first_pass_numbers
    (λ e. let no : true ≡ false = sym (eq-eqb seat k (sym e)) ∙ differs in cc)

-- a step changes the numbers of no pass but its own
pub other_pass : (n : AllNumbers) (k : ℕ) (step : WordStep) → is_by_pass k step ≡ false → pass_in (numbers_after n step) k ≡ pass_in n k
other_pass n k (TookGeneration seat) e = other_seat n k seat _ e
other_pass n k (SawGeneration seat) e = other_seat n k seat _ e
other_pass n k (StoredSince seat) e = other_seat n k seat _ e
other_pass n k (StoredLeft seat) e = other_seat n k seat _ e
other_pass n k AddedOne e = refl
other_pass n k (TookWord seat) e = refl

-- a step of a pass changes none of the keeper's numbers
pub other_keeper : (n : AllNumbers) (step : WordStep) → is_by_keeper step ≡ false → (numbers_after n step).keeper ≡ n.keeper
other_keeper n (TookGeneration seat) e = refl
other_keeper n (SawGeneration seat) e = refl
other_keeper n (StoredSince seat) e = refl
other_keeper n (StoredLeft seat) e = refl
other_keeper n AddedOne e = let no : true ≡ false = e in cc
other_keeper n (TookWord seat) e = let no : true ≡ false = e in cc

-- each element of so many copies is the one that is copied, also past the end
all_first : (seats k : ℕ) → get_or (replicate seats first_pass_numbers) k first_pass_numbers ≡ first_pass_numbers
all_first zero k = refl
all_first (suc seats) zero = refl
all_first (suc seats) (suc k) = all_first seats k

-- a filtered list that is empty comes from a list whose first element doesn't pass
passes_not : (mine : WordStep → Bool) (step : WordStep) (steps : List WordStep) (b : Bool) → mine step ≡ b
    → cond b (step ∷ filter mine steps) (filter mine steps) ≡ [] → (mine step ≡ false) × (filter mine steps ≡ [])
passes_not mine step steps true e none = let l : suc (length (filter mine steps)) ≡ 0 = ap length none in absurd (omega arith)
passes_not mine step steps false e none = (e, none)

none_first : (mine : WordStep → Bool) (step : WordStep) (steps : List WordStep) → filter mine (step ∷ steps) ≡ []
    → (mine step ≡ false) × (filter mine steps ≡ [])
none_first mine step steps none = passes_not mine step steps (mine step) refl none

-- a pass that takes no step keeps its numbers
pub untouched : (n : AllNumbers) (k : ℕ) (steps : List WordStep) → filter (is_by_pass k) steps ≡ []
    → pass_in (numbers_after_all n steps) k ≡ pass_in n k
untouched n k [] none = refl
untouched n k (step ∷ steps) none =
    let both = none_first (is_by_pass k) step steps none in
    untouched (numbers_after n step) k steps both.1 ∙ other_pass n k step both.0

-- the pass of a seat that has taken no step is as it was at first
pub as_at_first : (seats k : ℕ) (trail : List WordStep) → filter (is_by_pass k) trail ≡ []
    → pass_in (numbers_by seats trail) k ≡ first_pass_numbers
as_at_first seats k trail none = untouched (first_numbers seats) k trail none ∙ all_first seats k

-- a step that doesn't pass the test is one of the others
filter-other : (mine : WordStep → Bool) (step : WordStep) → mine step ≡ false → filter mine (step ∷ []) ≡ []
filter-other mine step e = ap (λ (b : Bool). cond b (step ∷ []) []) e

filter-mine : (mine : WordStep → Bool) (step : WordStep) → mine step ≡ true → filter mine (step ∷ []) ≡ step ∷ []
filter-mine mine step e = ap (λ (b : Bool). cond b (step ∷ []) []) e

append_none : (xs : List WordStep) → xs ++ [] ≡ xs
append_none [] = refl
append_none (x ∷ xs) = ap (λ (l : List WordStep). x ∷ l) (append_none xs)

-- an empty list has no last element
no_last : (xs : List WordStep) (x : WordStep) → [] ≡ xs ++ x ∷ [] → ⊥
no_last [] x e = let no : [] ≡ x ∷ [] = e in cc
no_last (y ∷ xs) x e = let no : [] ≡ y ∷ (xs ++ x ∷ []) = e in cc

-- the last element of a list is one
pub one_last : (xs ys : List WordStep) (x y : WordStep) → xs ++ x ∷ [] ≡ ys ++ y ∷ [] → x ≡ y
one_last [] [] x y e = let same : x ≡ y = cc in same
one_last [] (z ∷ ys) x y e = absurd (no_last ys y (let rest : [] ≡ ys ++ y ∷ [] = cc in rest))
one_last (z ∷ xs) [] x y e = absurd (no_last xs x (let rest : [] ≡ xs ++ x ∷ [] = cc in rest))
one_last (z ∷ xs) (u ∷ ys) x y e = one_last xs ys x y (let rest : xs ++ x ∷ [] ≡ ys ++ y ∷ [] = cc in rest)

-- each list is empty, or has a last element
last_of : (xs : List WordStep) → (xs ≡ []) ⊎ ((others : List WordStep) × (last : WordStep) × (xs ≡ others ++ last ∷ []))
last_of [] = inl refl
last_of (x ∷ xs) =
    elim (last_of xs) [
      | inl none ↦ inr ([], x, ap (λ (l : List WordStep). x ∷ l) none)
      | inr some ↦ inr (x ∷ some.0, some.1, ap (λ (l : List WordStep). x ∷ l) some.2)
    ]

-- nothing is added
pub adds_none : (mine : WordStep → Bool) (trail : List WordStep) → Adds mine trail trail []
adds_none mine trail = record {
  later = [];
  all = sym (append_none trail);
  own_are = refl;
  ends = λ others last e. absurd (no_last others last e);
}

-- two lists of steps end with a step that passes the test, if both do
both_end : (mine : WordStep → Bool) (xs ys : List WordStep)
    → ((others : List WordStep) (last : WordStep) → xs ≡ others ++ last ∷ [] → mine last ≡ true)
    → ((others : List WordStep) (last : WordStep) → ys ≡ others ++ last ∷ [] → mine last ≡ true)
    → (others : List WordStep) (last : WordStep) → xs ++ ys ≡ others ++ last ∷ [] → mine last ≡ true
both_end mine xs ys one two others last e =
    elim (last_of ys) [
      | inl none ↦ one others last (sym (append_none xs) ∙ (ap (λ (l : List WordStep). xs ++ l) (sym none) ∙ e))
      | inr some ↦
          let same : some.1 ≡ last =
          one_last (xs ++ some.0) others some.1 last
          (append_assoc xs some.0 (some.1 ∷ []) ∙ (ap (λ (l : List WordStep). xs ++ l) (sym some.2) ∙ e)) in
          ap mine (sym same) ∙ two some.0 some.1 some.2
    ]

-- two additions are one
pub adds_both : (mine : WordStep → Bool) (one two three own more : List WordStep) → Adds mine one two own → Adds mine two three more
    → Adds mine one three (own ++ more)
adds_both mine one two three own more a b = record {
  later = a.later ++ b.later;
  all = b.all ∙ (ap (λ (l : List WordStep). l ++ b.later) a.all ∙ append_assoc one a.later b.later);
  own_are = filter-append mine a.later b.later ∙ (ap (λ (l : List WordStep). l ++ filter mine b.later) a.own_are
      ∙ ap (λ (l : List WordStep). own ++ l) b.own_are);
  ends = both_end mine a.later b.later a.ends b.ends;
}

-- nothing came since
pub none_since : (mine : WordStep → Bool) (trail : List WordStep) → NoneSince mine trail trail
none_since mine trail = record { later = []; all = sym (append_none trail); none = refl }

-- a step of others came
pub since_other : (mine : WordStep → Bool) (known trail : List WordStep) (step : WordStep) → mine step ≡ false
    → NoneSince mine known trail → NoneSince mine known (trail ++ step ∷ [])
since_other mine known trail step e s = record {
  later = s.later ++ step ∷ [];
  all = ap (λ (l : List WordStep). l ++ step ∷ []) s.all ∙ append_assoc known s.later (step ∷ []);
  none = filter-append mine s.later (step ∷ []) ∙ (λ i. s.none i ++ filter-other mine step e i);
}

-- a step of one's own is added, after those of others
pub adds_mine : (mine : WordStep → Bool) (known trail : List WordStep) (step : WordStep) → mine step ≡ true
    → NoneSince mine known trail → Adds mine known (trail ++ step ∷ []) (step ∷ [])
adds_mine mine known trail step e s = record {
  later = s.later ++ step ∷ [];
  all = ap (λ (l : List WordStep). l ++ step ∷ []) s.all ∙ append_assoc known s.later (step ∷ []);
  own_are = filter-append mine s.later (step ∷ []) ∙ (λ i. s.none i ++ filter-mine mine step e i);
  ends = λ others last same. ap mine (sym (one_last s.later others step last same)) ∙ e;
}

-- a longer trail has no step of a seat if the trail and the step have none
pub still_none : (k : ℕ) (trail : List WordStep) (step : WordStep) → filter (is_by_pass k) trail ≡ [] → is_by_pass k step ≡ false
    → filter (is_by_pass k) (trail ++ step ∷ []) ≡ []
still_none k trail step none e = filter-append (is_by_pass k) trail (step ∷ [])
    ∙ (ap (λ (l : List WordStep). l ++ filter (is_by_pass k) (step ∷ [])) none ∙ filter-other (is_by_pass k) step e)

-- the step isn't a load by the keeper
abbrev pub IsNoTake : WordStep → Type 0
IsNoTake (TookWord seat) = ⊥
IsNoTake step = ⊤

-- the keeper's numbers once the generation is raised for each of these steps
abbrev raised_by : List WordStep → KeeperNumbers → KeeperNumbers
raised_by [] k = k
raised_by (step ∷ steps) k = raised_by steps (generation_raised k)

-- if the keeper loads no word, its steps raise the generation
raises_keeper : (n : AllNumbers) (steps : List WordStep) → All IsNoTake (filter is_by_keeper steps)
    → (numbers_after_all n steps).keeper ≡ raised_by (filter is_by_keeper steps) n.keeper
raises_keeper n [] own = refl
raises_keeper n (TookGeneration seat ∷ steps) own = raises_keeper (numbers_after n (TookGeneration seat)) steps own
raises_keeper n (SawGeneration seat ∷ steps) own = raises_keeper (numbers_after n (SawGeneration seat)) steps own
raises_keeper n (StoredSince seat ∷ steps) own = raises_keeper (numbers_after n (StoredSince seat)) steps own
raises_keeper n (StoredLeft seat ∷ steps) own = raises_keeper (numbers_after n (StoredLeft seat)) steps own
raises_keeper n (AddedOne ∷ steps) own =
    raises_keeper (numbers_after n AddedOne) steps (All-tail IsNoTake AddedOne (filter is_by_keeper steps) own)
raises_keeper n (TookWord seat ∷ steps) own = absurd (All-head IsNoTake (TookWord seat) (filter is_by_keeper steps) own)

-- the keeper's own steps, if it loads no word, lead equal numbers to equal ones, whatever steps of others stand between them
pub same_raises : (n m : AllNumbers) (xs ys : List WordStep) → n.keeper ≡ m.keeper → filter is_by_keeper xs ≡ filter is_by_keeper ys
    → All IsNoTake (filter is_by_keeper ys) → (numbers_after_all n xs).keeper ≡ (numbers_after_all m ys).keeper
same_raises n m xs ys same own none =
    raises_keeper n xs (subst (All IsNoTake) (sym own) none) ∙ ((λ i. raised_by (own i) (same i)) ∙ sym (raises_keeper m ys none))

-- a keeper that takes no step keeps its numbers
pub keeper_untouched : (n : AllNumbers) (steps : List WordStep) → filter is_by_keeper steps ≡ [] → (numbers_after_all n steps).keeper ≡ n.keeper
keeper_untouched n steps none = same_raises n n steps [] refl none (All-nil IsNoTake)

-- a keeper that has added one to the generation has taken that step
pub raised_steps : (old new : KeeperState) → HasRaised old new → KeeperSteps old new (AddedOne ∷ [])
raised_steps old new raised =
    let seats = length old.numbers.bounds in
    let same : length new.numbers.bounds ≡ length old.numbers.bounds = ap (λ k. length k.numbers.bounds) raised.others in
    record {
      adds = raised.adds;
      seats = same;
      led_to = λ led. ap (λ (k : KeeperState). k.numbers) raised.others
          ∙ (ap generation_raised led
          ∙ (sym (same_raises (numbers_by (length old.numbers.bounds) old.trail) (numbers_by (length old.numbers.bounds) old.trail)
          raised.adds.later (AddedOne ∷ []) refl raised.adds.own_are (All-cons IsNoTake AddedOne [] tt (All-nil IsNoTake)))
          ∙ (ap (λ (n : AllNumbers). n.keeper) (sym (after_both (first_numbers (length old.numbers.bounds)) old.trail raised.adds.later))
          ∙ (λ i. (numbers_by (sym same i) (sym raised.adds.all i)).keeper))));
    }

-- an equal keeper has taken no step
pub no_steps : (old new : KeeperState) → new ≡ old → KeeperSteps old new []
no_steps old new same = subst (λ (k : KeeperState). KeeperSteps old k []) (sym same)
    record { adds = adds_none is_by_keeper old.trail; seats = refl; led_to = λ led. led }

-- a keeper that has taken steps and then others has taken both
pub steps_both : (old mid new : KeeperState) (own more : List WordStep) → KeeperSteps old mid own → KeeperSteps mid new more
    → KeeperSteps old new (own ++ more)
steps_both old mid new own more a b = record {
  adds = adds_both is_by_keeper old.trail mid.trail new.trail own more a.adds b.adds;
  seats = b.seats ∙ a.seats;
  led_to = λ led. b.led_to (a.led_to led);
}
