-- No step lowers a seat's word: what a step has to keep for that, and what follows for longer trails.
use Rattle.std.proofs.Common.{◌≡◌, ℕ, ◌<◌, ◌≤◌, ◌⊎◌, inl, inr, List, [], ◌∷◌, ◌++◌, length, sym, refl, ap, ◌∙◌}
use Rattle.std.proofs.Common.{subst, ⊎_elim, append_assoc, get_or-set_other, le_refl, le_trans}
use mathlib.Core.Logic.{dite}
use native.Mathlib.Decide.{ℕ_discrete}
use Rattle.std.proofs.lemmas.List.{append-nil}
use Rattle.nc_gens.specs.declared.view.PassNumbers.{PassNumbers}
use Rattle.nc_gens.specs.declared.view.WordStep.{WordStep}
use Rattle.nc_gens.specs.Rule.{first_pass_numbers}
use Rattle.nc_gens.specs.Trail.{AllNumbers, pass_in, with_pass, numbers_after, numbers_by, seat_word, IsRising}
use Rattle.nc_gens.proofs.Trails.{by_longer, this_pass}

-- the step lowers no seat's word
abbrev pub LowersNone : AllNumbers → WordStep → Type 0
LowersNone n step = (k : ℕ) → (pass_in n k).word ≤ (pass_in (numbers_after n step) k).word

-- no seat's word falls if the word of the one pass that changes doesn't
pub lowers_none : (n : AllNumbers) (seat : ℕ) (p : PassNumbers) → seat < length n.passes → (pass_in n seat).word ≤ p.word
    → (k : ℕ) → (pass_in n k).word ≤ (pass_in (with_pass n seat p) k).word
lowers_none n seat p inside above k = dite (ℕ_discrete k seat)
    (λ e. subst (λ (z : ℕ). (pass_in n z).word ≤ (pass_in (with_pass n seat p) z).word) (sym e)
    (subst (λ (q : PassNumbers). (pass_in n seat).word ≤ q.word) (sym (this_pass n seat p inside)) above))
    (λ ne. subst (λ (q : PassNumbers). (pass_in n k).word ≤ q.word)
    (sym (get_or-set_other n.passes seat k p first_pass_numbers ne)) (le_refl (pass_in n k).word))

-- the word of a seat where nothing is added to a trail
nothing_more : (seats k : ℕ) (first more : List WordStep) → more ≡ [] → seat_word seats first k ≤ seat_word seats (first ++ more) k
nothing_more seats k first more none =
    let same : first ++ more ≡ first = ap (λ (l : List WordStep). first ++ l) none ∙ append-nil first in
    subst (λ (l : List WordStep). seat_word seats first k ≤ seat_word seats l k) (sym same) (le_refl (seat_word seats first k))

-- two lists that have no element together have none each
both_empty : (xs ys : List WordStep) → [] ≡ xs ++ ys → (xs ≡ []) × (ys ≡ [])
both_empty [] ys e = (refl, sym e)
both_empty (x ∷ xs) ys e = absurd cc

-- no word has fallen before the first step
pub rising_none : (seats : ℕ) → IsRising seats []
rising_none seats k first more later e =
    let none = both_empty first (more ++ later) e in
    nothing_more seats k first more (both_empty more later (sym none.1)).0

-- where a list that ends with `one` is cut in two, the second part is empty or ends with it
abbrev CutBefore : List WordStep → WordStep → List WordStep → List WordStep → Type 0
CutBefore trail one xs ys = (ys ≡ []) ⊎ ((part : List WordStep) × (ys ≡ part ++ one ∷ []) × (trail ≡ xs ++ part))

cut : (trail : List WordStep) (one : WordStep) (xs ys : List WordStep) → trail ++ one ∷ [] ≡ xs ++ ys → CutBefore trail one xs ys
cut trail one [] ys e = inr (trail, sym e, refl)
cut [] one (x ∷ xs) ys e = let rest : [] ≡ xs ++ ys = cc in inl (both_empty xs ys rest).1
cut (h ∷ trail) one (x ∷ xs) ys e =
    let same : h ≡ x = cc in
    let rest : trail ++ one ∷ [] ≡ xs ++ ys = cc in
    ⊎_elim (λ (none : ys ≡ []). inl none)
    (λ (t : (part : List WordStep) × (ys ≡ part ++ one ∷ []) × (trail ≡ xs ++ part)). inr (t.0, t.1, λ i. same i ∷ t.2 i))
    (cut trail one xs ys rest)

-- a step that lowers no word can be added
pub rising_more : (seats : ℕ) (trail : List WordStep) (one : WordStep) → LowersNone (numbers_by seats trail) one
    → IsRising seats trail → IsRising seats (trail ++ one ∷ [])
rising_more seats trail one up is k first more later e =
    ⊎_elim
    (λ (none : later ≡ []). ⊎_elim
    (λ (nothing : more ≡ []). nothing_more seats k first more nothing)
    (λ (t : (part : List WordStep) × (more ≡ part ++ one ∷ []) × (trail ≡ first ++ part)).
    let below = is k first t.0 [] (t.2 ∙ ap (λ (l : List WordStep). first ++ l) (sym (append-nil t.0))) in
    let here : seat_word seats trail k ≤ seat_word seats (trail ++ one ∷ []) k =
    subst (λ (n : AllNumbers). seat_word seats trail k ≤ (pass_in n k).word) (sym (by_longer seats trail one)) (up k) in
    let whole : trail ++ one ∷ [] ≡ first ++ more =
    (λ i. t.2 i ++ one ∷ []) ∙ (append_assoc first t.0 (one ∷ []) ∙ ap (λ (l : List WordStep). first ++ l) (sym t.1)) in
    le_trans (subst (λ (l : List WordStep). seat_word seats first k ≤ seat_word seats l k) (sym t.2) below)
    (subst (λ (l : List WordStep). seat_word seats trail k ≤ seat_word seats l k) whole here))
    (cut trail one first more
    (e ∙ ap (λ (l : List WordStep). first ++ l) (ap (λ (l : List WordStep). more ++ l) none ∙ append-nil more))))
    (λ (t : (part : List WordStep) × (later ≡ part ++ one ∷ []) × (trail ≡ (first ++ more) ++ part)).
    is k first more t.0 (t.2 ∙ append_assoc first more t.0))
    (cut trail one (first ++ more) later (e ∙ sym (append_assoc first more later)))
