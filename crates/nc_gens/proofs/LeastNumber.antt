-- The keeper's least number, found by going through the bounds from the front.
use Rattle.std.proofs.Common.{◌≡◌, ◌≢◌, ℕ, zero, suc, ◌<◌, ◌≤◌, ◌==◌, not, min, Bool, true, false, cond, List, [], ◌∷◌, fold, length}
use Rattle.std.proofs.Common.{get_or, refl, sym, eq-eqb, ap, ◌∙◌, subst, ne_eqb, le_trans, arith}
use mathlib.Core.Logic.{dite}
use native.Mathlib.Decide.{ℕ_discrete}
use Rattle.nc_gens.specs.Rule.{left_word}
use Rattle.nc_gens.specs.Seen.{staying, least_or}

-- the lower of two numbers, where "left" doesn't count
abbrev pub lower : ℕ → ℕ → ℕ
lower a b = cond (not (b == left_word)) (min a b) a

-- going through all bounds is going through those that stay
fold-staying : (a : ℕ) (bs : List ℕ) → fold min a (staying bs) ≡ fold lower a bs
fold-staying a [] = refl
fold-staying a (b ∷ bs) = go (not (b == left_word)) (fold-staying (min a b) bs) (fold-staying a bs)
  where
    go : (t : Bool) → fold min (min a b) (staying bs) ≡ fold lower (min a b) bs → fold min a (staying bs) ≡ fold lower a bs
        → fold min a (cond t (b ∷ staying bs) (staying bs)) ≡ fold lower (cond t (min a b) a) bs
    go true counted _ = counted
    go false _ passed = passed

-- what counts as a bound that stays is at most g
abbrev pub IsBelow : ℕ → ℕ → Type 0
IsBelow g b = b ≢ left_word → b ≤ g

-- where no bound is above g, the least one is found from g on
pub fold-lower : (g : ℕ) (bs : List ℕ) → ((i : ℕ) → i < length bs → IsBelow g (get_or bs i 0)) → fold lower g bs ≡ least_or g (staying bs)
fold-lower g [] each = refl
fold-lower g (b ∷ bs) each = dite (ℕ_discrete b left_word)
    (λ e. at (b == left_word) (eq-eqb b left_word e) (fold-lower g bs (λ i l. each (suc i) (omega arith))))
    (λ ne. at (b == left_word) (ne_eqb b left_word ne)
    (let up = each zero (omega arith) ne in let b_is : min g b ≡ b = omega arith in ap (λ (z : ℕ). fold lower z bs) b_is
    ∙ sym (fold-staying b bs)))
  where
    Goal : Bool → Type 0
    Goal t = fold lower (cond (not t) (min g b) g) bs ≡ least_or g (cond (not t) (b ∷ staying bs) (staying bs))

    at : (t : Bool) {u : Bool} → t ≡ u → Goal u → Goal t
    at t e h = subst Goal (sym e) h

-- the least number found is at most the one that it begins with
pub fold-lower_le : (a : ℕ) (bs : List ℕ) → fold lower a bs ≤ a
fold-lower_le a [] = omega arith
fold-lower_le a (b ∷ bs) = le_trans (fold-lower_le (lower a b) bs) (go (not (b == left_word)))
  where
    go : (t : Bool) → cond t (min a b) a ≤ a
    go true = omega arith
    go false = omega arith

-- the lower of two numbers is at most the second, if that counts
lower_le : (a b : ℕ) → b ≢ left_word → lower a b ≤ b
lower_le a b ne = subst (λ (t : Bool). cond (not t) (min a b) a ≤ b) (sym (ne_eqb b left_word ne)) (omega arith)

-- the least number found is at most each bound that counts
pub fold-lower_below : (a : ℕ) (bs : List ℕ) (i d : ℕ) → i < length bs → get_or bs i d ≢ left_word → fold lower a bs ≤ get_or bs i d
fold-lower_below a [] i d l ne = absurd (omega arith)
fold-lower_below a (b ∷ bs) zero d l ne = le_trans (fold-lower_le (lower a b) bs) (lower_le a b ne)
fold-lower_below a (b ∷ bs) (suc i) d l ne = fold-lower_below (lower a b) bs i d (omega arith) ne

-- the least number is at most each bound that stays
pub least_below : (g : ℕ) (bs : List ℕ) (k : ℕ) → k < length bs → get_or bs k 0 ≢ left_word → least_or g (staying bs) ≤ get_or bs k 0
least_below g [] k lt ne = absurd (omega (arith, lt))
least_below g (b ∷ bs) zero lt ne =
    subst (λ (t : Bool). least_or g (cond (not t) (b ∷ staying bs) (staying bs)) ≤ b) (sym (ne_eqb b left_word ne))
    (subst (λ (n : ℕ). n ≤ b) (sym (fold-staying b bs)) (fold-lower_le b bs))
least_below g (b ∷ bs) (suc k) lt ne =
    go (not (b == left_word))
    (subst (λ (n : ℕ). n ≤ get_or bs k 0) (sym (fold-staying b bs)) (fold-lower_below b bs k 0 (omega (arith, lt)) ne))
    (least_below g bs k (omega (arith, lt)) ne)
  where
    go : (t : Bool) → fold min b (staying bs) ≤ get_or bs k 0 → least_or g (staying bs) ≤ get_or bs k 0
        → least_or g (cond t (b ∷ staying bs) (staying bs)) ≤ get_or bs k 0
    go true counted passed = counted
    go false counted passed = passed

-- the least number that is found is at least what each is
fold-above : (stamp a : ℕ) (bs : List ℕ) → stamp ≤ a → ((k : ℕ) → k < length bs → stamp ≤ get_or bs k 0) → stamp ≤ fold min a (staying bs)
fold-above stamp a [] first each = first
fold-above stamp a (b ∷ bs) first each =
    go (not (b == left_word))
    (fold-above stamp (min a b) bs (let here = each zero (omega arith) in omega (arith, here)) (λ k lt. each (suc k) (omega (arith, lt))))
    (fold-above stamp a bs first (λ k lt. each (suc k) (omega (arith, lt))))
  where
    go : (t : Bool) → stamp ≤ fold min (min a b) (staying bs) → stamp ≤ fold min a (staying bs)
        → stamp ≤ fold min a (cond t (b ∷ staying bs) (staying bs))
    go true counted _ = counted
    go false _ passed = passed

-- the least number is at least a stamp that is at most the generation and each bound
pub least_above : (stamp g : ℕ) (bs : List ℕ) → stamp ≤ g → ((k : ℕ) → k < length bs → stamp ≤ get_or bs k 0)
    → stamp ≤ least_or g (staying bs)
least_above stamp g [] drawn each = drawn
least_above stamp g (b ∷ bs) drawn each =
    go (not (b == left_word))
    (fold-above stamp b bs (each zero (omega arith)) (λ k lt. each (suc k) (omega (arith, lt))))
    (least_above stamp g bs drawn (λ k lt. each (suc k) (omega (arith, lt))))
  where
    go : (t : Bool) → stamp ≤ fold min b (staying bs) → stamp ≤ least_or g (staying bs)
        → stamp ≤ least_or g (cond t (b ∷ staying bs) (staying bs))
    go true counted _ = counted
    go false _ passed = passed
