-- The keeper's least number isn't the word of a seat that has left.
use Rattle.std.proofs.Common.{◌≡◌, ◌≢◌, ℕ, ◌≤◌, ◌==◌, not, min, Bool, true, false, cond, List, [], ◌∷◌, fold, arith, refl, sym, ◌∙◌, ◌<◌, inl, inr}
use Rattle.std.proofs.lemmas.Bool.{eqb-false, cases_lt}
use Rattle.nc_gens.specs.Rule.{left_word, last_generation}
use Rattle.nc_gens.specs.Seen.{staying, least_or}

-- the lower of two numbers isn't the word of a seat that has left, if neither number is
lower_stays : (a b : ℕ) → a ≢ left_word → b ≢ left_word → min a b ≢ left_word
lower_stays a b first second = λ is. omega arith

-- with one more number, if its seat stays, the result isn't the word of a seat that has left
one_more : (f : List ℕ → ℕ) (b : ℕ) (bs : List ℕ) (t : Bool) → (b == left_word) ≡ t → (b ≢ left_word → f (b ∷ staying bs) ≢ left_word)
    → f (staying bs) ≢ left_word → f (cond (not t) (b ∷ staying bs) (staying bs)) ≢ left_word
one_more f b bs true is counted passed = passed
one_more f b bs false is counted passed = counted (eqb-false b left_word is)

-- the least of a number and of those that stay isn't the word of a seat that has left
fold_stays : (a : ℕ) (bs : List ℕ) → a ≢ left_word → fold min a (staying bs) ≢ left_word
fold_stays a [] stays = stays
fold_stays a (b ∷ bs) stays =
    one_more (λ xs. fold min a xs) b bs (b == left_word) refl (λ other. fold_stays (min a b) bs (lower_stays a b stays other))
    (fold_stays a bs stays)

-- the least number that stays, or the generation, isn't the word of a seat that has left
least_stays : (g : ℕ) (bs : List ℕ) → g ≢ left_word → least_or g (staying bs) ≢ left_word
least_stays g [] stays = stays
least_stays g (b ∷ bs) stays =
    one_more (λ xs. least_or g xs) b bs (b == left_word) refl (λ other. fold_stays b bs other) (least_stays g bs stays)

-- the keeper's least number is below the word of a seat that has left
pub least_below : (g : ℕ) (bs : List ℕ) (least : ℕ) → g ≤ last_generation → least < 18446744073709551616 → least ≡ least_or g (staying bs)
    → least < left_word
least_below g bs least range fits is =
    let stays = least_stays g bs (λ e. omega (arith, e, range)) in
    elim (cases_lt least left_word) [ inl lt ↦ lt | inr top ↦ absurd (stays (sym is ∙ omega (arith, top, fits))) ]
