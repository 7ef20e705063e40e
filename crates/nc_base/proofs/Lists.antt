-- Parts of lists, and elements of an optional place.
use Rattle.std.proofs.Common.{◌≡◌, ℕ, zero, suc, ◌-◌, ◌<◌, List, [], ◌∷◌, ◌++◌, length, take, drop, set, Option, Some, refl, sym, ap, arith}
use Rattle.std.proofs.lemmas.List.{length-drop, nil_from_length, drop_all, append-nil}

-- the first elements of a list, as many as it has, are the list
take_all : {X : Type 0} (xs : List X) (k : ℕ) → length xs ≡ k → take k xs ≡ xs
take_all xs zero e = sym (nil_from_length xs e)
take_all [] (suc k) e = refl
take_all (x ∷ xs) (suc k) e = ap (λ z. x ∷ z) (take_all xs k (omega (arith, e)))

-- a slice from an index on is the rest
pub slice_rest : {X : Type 0} (xs : List X) (n : ℕ) → take (length xs - n) (drop n xs) ≡ drop n xs
slice_rest xs n = take_all (drop n xs) (length xs - n) (omega (arith, length-drop n xs))

-- an element written behind the first ones in a buffer is one more of them
pub over_one_more : {X : Type 0} (xs start : List X) (y : X) → length xs < length (xs ++ drop (length xs) start)
    → set (xs ++ drop (length xs) start) (length xs) y ≡ (xs ++ y ∷ []) ++ drop (length (xs ++ y ∷ [])) start
over_one_more [] [] y lt = absurd (omega (arith, lt))
over_one_more [] (s ∷ rest) y lt = refl
over_one_more {X} (x ∷ xs) [] y lt =
    let long = ap (λ (z : List X). length (x ∷ xs ++ z)) (drop_all (length (x ∷ xs)) [] (omega arith)) in
    absurd (omega (arith, lt, long, ap (λ (z : List X). length z) (append-nil (x ∷ xs))))
over_one_more (x ∷ xs) (s ∷ rest) y lt = ap (λ z. x ∷ z) (over_one_more xs rest y (omega (arith, lt)))

-- two elements of one place are one
pub some_same : {X : Type 0} (o : Option X) (x y : X) → o ≡ Some x → o ≡ Some y → x ≡ y
some_same o x y e f = cc
