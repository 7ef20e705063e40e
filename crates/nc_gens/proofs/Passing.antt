-- A seat that checks in once a stamp is drawn has passed it from then on, and so has one that leaves.
use Rattle.std.proofs.Common.{◌≡◌, ℕ, ◌<◌, ◌≤◌, ◌⊎◌, List, [], ◌∷◌, ◌++◌, length, sym, ap, ◌∙◌, subst, ⊎_elim, arith, append_assoc, get_or-set_other, le_trans}
use Rattle.std.proofs.Common.{zero, suc}
use Rattle.std.specs.Prelude.{Contains, slice_index_or}
use mathlib.Core.Logic.{dite}
use native.Mathlib.Decide.{ℕ_discrete}
use Rattle.nc_gens.specs.declared.view.PassNumbers.{PassNumbers}
use Rattle.nc_gens.specs.declared.view.WordStep.{WordStep}
use Rattle.nc_gens.specs.declared.view.WordStep.TheVariants.{TookGeneration, SawGeneration, StoredSince, StoredLeft, AddedOne, TookWord}
use Rattle.nc_gens.specs.Rule.{left_word, last_generation, first_pass_numbers, generation_taken, generation_seen, since_stored, left_stored}
use Rattle.nc_gens.specs.Trail.{AllNumbers, pass_in, with_pass, numbers_after, numbers_after_all, numbers_by, seat_word, IsRising}
use Rattle.nc_gens.specs.Progress.{HavePassed, HasCheckedInSince}
use Rattle.nc_gens.proofs.Trails.{first_numbers, by_longer, after_both, as_many_by, as_many_after, this_pass}

-- what a change of one pass keeps of a pass, it keeps of the pass of a seat, whichever pass is changed
pass_kept : (P : PassNumbers → Type 0) (n : AllNumbers) (seat k : ℕ) (f : PassNumbers → PassNumbers) → k < length n.passes
    → ((p : PassNumbers) → P p → P (f p)) → P (pass_in n k) → P (pass_in (with_pass n seat (f (pass_in n seat))) k)
pass_kept P n seat k f inside keeps is = dite (ℕ_discrete k seat)
    (λ e. subst (λ (z : ℕ). P (pass_in (with_pass n z (f (pass_in n z))) k)) e
    (subst P (sym (this_pass n k (f (pass_in n k)) inside)) (keeps (pass_in n k) is)))
    (λ ne. subst P (sym (get_or-set_other n.passes seat k (f (pass_in n seat)) first_pass_numbers ne)) is)

-- The generation and the `since` of the seat's pass are at least the stamp.
record HasTaken (stamp k : ℕ) (n : AllNumbers) : Type 0 where
  pub inside : k < length n.passes
  pub drawn : stamp ≤ n.keeper.generation
  pub taken : stamp ≤ (pass_in n k).since

-- no step changes that
taken_after : (stamp k : ℕ) (n : AllNumbers) (step : WordStep) → HasTaken stamp k n → HasTaken stamp k (numbers_after n step)
taken_after stamp k n step h = record {
  inside = let many = as_many_after n step in let i = h.inside in omega (arith, many, i);
  drawn = generation step;
  taken = since step;
}
  where
    generation : (step : WordStep) → stamp ≤ (numbers_after n step).keeper.generation
    generation (TookGeneration seat) = h.drawn
    generation (SawGeneration seat) = h.drawn
    generation (StoredSince seat) = h.drawn
    generation (StoredLeft seat) = h.drawn
    generation AddedOne = le_trans h.drawn (omega arith)
    generation (TookWord seat) = h.drawn

    kept : (seat : ℕ) (f : PassNumbers → PassNumbers) → ((p : PassNumbers) → stamp ≤ p.since → stamp ≤ (f p).since)
        → stamp ≤ (pass_in (with_pass n seat (f (pass_in n seat))) k).since
    kept seat f keeps = pass_kept (λ (p : PassNumbers). stamp ≤ p.since) n seat k f h.inside keeps h.taken

    since : (step : WordStep) → stamp ≤ (pass_in (numbers_after n step) k).since
    since (TookGeneration seat) = kept seat (generation_taken n.keeper.generation) (λ p was. h.drawn)
    since (SawGeneration seat) = kept seat (generation_seen n.keeper.generation) (λ p was. was)
    since (StoredSince seat) = kept seat since_stored (λ p was. was)
    since (StoredLeft seat) = kept seat left_stored (λ p was. was)
    since AddedOne = h.taken
    since (TookWord seat) = h.taken

-- nor do steps
taken_after_all : (stamp k : ℕ) (n : AllNumbers) (steps : List WordStep) → HasTaken stamp k n → HasTaken stamp k (numbers_after_all n steps)
taken_after_all stamp k n [] h = h
taken_after_all stamp k n (step ∷ steps) h = taken_after_all stamp k (numbers_after n step) steps (taken_after stamp k n step h)

-- the seat's word stays at least the stamp, if its `since` and "left" are at least that
word_after : (stamp k : ℕ) (n : AllNumbers) (step : WordStep) → stamp ≤ left_word → HasTaken stamp k n → stamp ≤ (pass_in n k).word
    → stamp ≤ (pass_in (numbers_after n step) k).word
word_after stamp k n step low h word = go step
  where
    kept : (seat : ℕ) (f : PassNumbers → PassNumbers)
        → ((p : PassNumbers) → (stamp ≤ p.since) × (stamp ≤ p.word) → (stamp ≤ (f p).since) × (stamp ≤ (f p).word))
        → stamp ≤ (pass_in (with_pass n seat (f (pass_in n seat))) k).word
    kept seat f keeps = (pass_kept (λ (p : PassNumbers). (stamp ≤ p.since) × (stamp ≤ p.word)) n seat k f h.inside keeps (h.taken, word)).1

    go : (step : WordStep) → stamp ≤ (pass_in (numbers_after n step) k).word
    go (TookGeneration seat) = kept seat (generation_taken n.keeper.generation) (λ p was. (h.drawn, was.1))
    go (SawGeneration seat) = kept seat (generation_seen n.keeper.generation) (λ p was. was)
    go (StoredSince seat) = kept seat since_stored (λ p was. (was.0, was.0))
    go (StoredLeft seat) = kept seat left_stored (λ p was. (was.0, low))
    go AddedOne = word
    go (TookWord seat) = word

word_after_all : (stamp k : ℕ) (n : AllNumbers) (steps : List WordStep) → stamp ≤ left_word → HasTaken stamp k n
    → stamp ≤ (pass_in n k).word → stamp ≤ (pass_in (numbers_after_all n steps) k).word
word_after_all stamp k n [] low h word = word
word_after_all stamp k n (step ∷ steps) low h word =
    word_after_all stamp k (numbers_after n step) steps low (taken_after stamp k n step h) (word_after stamp k n step low h word)

-- a pass that loads the generation, once it is at least the stamp, has taken that
taken_first : (stamp k : ℕ) (n : AllNumbers) → k < length n.passes → stamp ≤ n.keeper.generation
    → HasTaken stamp k (numbers_after n (TookGeneration k))
taken_first stamp k n inside drawn = record {
  inside = let many = as_many_after n (TookGeneration k) in omega (arith, many, inside);
  drawn = drawn;
  taken = subst (λ (p : PassNumbers). stamp ≤ p.since)
      (sym (this_pass n k (generation_taken n.keeper.generation (pass_in n k)) inside)) drawn;
}

-- a pass that stores what it has taken has a word of at least the stamp
word_first : (stamp k : ℕ) (n : AllNumbers) → HasTaken stamp k n → stamp ≤ (pass_in (numbers_after n (StoredSince k)) k).word
word_first stamp k n h = subst (λ (p : PassNumbers). stamp ≤ p.word) (sym (this_pass n k (since_stored (pass_in n k)) h.inside)) h.taken

-- the word of a seat that has checked in since the stamp is at least that
pub checked_in_since : (seats stamp k : ℕ) (known : List WordStep) → k < seats → stamp ≤ left_word → HasCheckedInSince seats stamp known k
    → stamp ≤ seat_word seats known k
checked_in_since seats stamp k known inside low h =
    let n : AllNumbers = numbers_by seats h.first in
    let many = as_many_by seats h.first in
    let one : HasTaken stamp k (numbers_after n (TookGeneration k)) = taken_first stamp k n (omega (arith, many, inside)) h.drawn in
    let m : AllNumbers = numbers_after_all (numbers_after n (TookGeneration k)) h.more in
    let two : HasTaken stamp k m = taken_after_all stamp k (numbers_after n (TookGeneration k)) h.more one in
    let is : numbers_by seats known ≡ numbers_after_all (numbers_after m (StoredSince k)) h.later =
    ap (numbers_by seats) h.parts
    ∙ (after_both (first_numbers seats) h.first (TookGeneration k ∷ (h.more ++ StoredSince k ∷ h.later))
    ∙ after_both (numbers_after n (TookGeneration k)) h.more (StoredSince k ∷ h.later)) in
    subst (λ (l : AllNumbers). stamp ≤ (pass_in l k).word) (sym is)
    (word_after_all stamp k (numbers_after m (StoredSince k)) h.later low (taken_after stamp k m (StoredSince k) two)
    (word_first stamp k m two))

-- a list is cut at an element of it
cut_at : (steps : List WordStep) (x : WordStep) (j : ℕ) → j < length steps → slice_index_or steps j x ≡ x
    → (first : List WordStep) × (later : List WordStep) × (steps ≡ first ++ x ∷ later)
cut_at [] x j lt e = absurd (omega (arith, lt))
cut_at (step ∷ steps) x zero lt e = ([], steps, ap (λ (s : WordStep). s ∷ steps) e)
cut_at (step ∷ steps) x (suc j) lt e =
    let t = cut_at steps x j (omega (arith, lt)) e in (step ∷ t.0, t.1, ap (λ (l : List WordStep). step ∷ l) t.2)

-- once a seat has left, its word is "left" for good, where no word falls
pub left_since : (seats k : ℕ) (known rest : List WordStep) → IsRising seats (known ++ rest) → k < seats → Contains known (StoredLeft k)
    → left_word ≤ seat_word seats known k
left_since seats k known rest rising inside some =
    let t = cut_at known (StoredLeft k) some.0 some.1 some.2 in
    let front : List WordStep = t.0 ++ StoredLeft k ∷ [] in
    let whole : known ≡ front ++ t.1 = t.2 ∙ sym (append_assoc t.0 (StoredLeft k ∷ []) t.1) in
    let many = as_many_by seats t.0 in
    let here : left_word ≡ seat_word seats front k =
    sym (ap (λ (p : PassNumbers). p.word)
    (ap (λ (n : AllNumbers). pass_in n k) (by_longer seats t.0 (StoredLeft k))
    ∙ this_pass (numbers_by seats t.0) k (left_stored (pass_in (numbers_by seats t.0) k)) (omega (arith, many, inside)))) in
    let up = rising k front t.1 rest (ap (λ (l : List WordStep). l ++ rest) whole ∙ append_assoc front t.1 rest) in
    subst (λ (l : List WordStep). left_word ≤ seat_word seats l k) (sym whole) (omega (arith, here, up))

-- where each seat has checked in since the stamp or has left, the words say so
pub have_passed : (seats stamp : ℕ) (known rest : List WordStep) → IsRising seats (known ++ rest) → stamp ≤ last_generation
    → ((k : ℕ) → k < seats → HasCheckedInSince seats stamp known k ⊎ Contains known (StoredLeft k)) → HavePassed seats stamp known
have_passed seats stamp known rest rising low each k inside = ⊎_elim
    (λ (h : HasCheckedInSince seats stamp known k). checked_in_since seats stamp k known inside (omega arith) h)
    (λ (h : Contains known (StoredLeft k)). let left = left_since seats k known rest rising inside h in omega (arith, left, low))
    (each k inside)
