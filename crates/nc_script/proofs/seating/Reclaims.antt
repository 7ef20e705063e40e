-- The number by which a reclaim frees is the generation or one of the bounds.
use Rattle.std.proofs.Common.{◌≡◌, ℕ, zero, suc, ◌<◌, ◌≤◌, min, Bool, true, false, not, cond, ◌==◌, List, [], ◌∷◌}
use Rattle.std.proofs.Common.{fold, subst, ⊎_elim, arith}
use Rattle.std.specs.Prelude.{All}
use Rattle.std.proofs.lemmas.Bool.{cases_lt}
use Rattle.nc_gens.specs.Rule.{left_word}
use Rattle.nc_gens.specs.Seen.{least_or, staying}

-- the lower of two numbers is one of them
lower_has : (P : ℕ → Type 0) (a b : ℕ) → P a → P b → P (min a b)
lower_has P a b p q =
    ⊎_elim (λ (lt : a < b). let e : a ≡ min a b = omega (arith, lt) in subst P e p)
    (λ (le : b ≤ a). let e : b ≡ min a b = omega (arith, le) in subst P e q) (cases_lt a b)

-- the least of some numbers is one of them
least_has : (P : ℕ → Type 0) (a : ℕ) (bs : List ℕ) → P a → All P bs → P (fold min a bs)
least_has P a [] p all = p
least_has P a (b ∷ bs) p all =
    least_has P (min a b) bs (lower_has P a b p (all 0 b (omega arith))) (λ k d l. all (suc k) d (omega (arith, l)))

-- what holds of all bounds holds of those that stay
staying_all : (P : ℕ → Type 0) (bs : List ℕ) → All P bs → All P (staying bs)
staying_all P [] all = all
staying_all P (b ∷ bs) all = go (not (b == left_word)) (staying_all P bs (λ k d l. all (suc k) d (omega (arith, l))))
  where
    go : (t : Bool) → All P (staying bs) → All P (cond t (b ∷ staying bs) (staying bs))
    go true rest zero d l = all 0 b (omega arith)
    go true rest (suc k) d l = rest k d (omega (arith, l))
    go false rest k d l = rest k d l

-- the least number is the generation or one of the bounds
pub least_is : (P : ℕ → Type 0) (generation : ℕ) (bs : List ℕ) → P generation → All P bs → P (least_or generation (staying bs))
least_is P generation bs p all = go (staying bs) (staying_all P bs all)
  where
    go : (xs : List ℕ) → All P xs → P (least_or generation xs)
    go [] h = p
    go (x ∷ xs) h = least_has P x xs (h 0 x (omega arith)) (λ k d l. h (suc k) d (omega (arith, l)))
