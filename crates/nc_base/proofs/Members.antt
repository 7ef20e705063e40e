-- What holds of each member of a list.
use Rattle.std.proofs.Common.{ℕ, ◌≢◌, ◌<◌, ◌≤◌, List, [], ◌∷◌, ◌++◌, length, get_or, set, take, drop, replicate, arith, zero, suc, subst, Contains}
use Rattle.nc_base.specs.Each.{Each}

-- what follows from P for each member holds of each
pub each_map : {X : Type 0} (P Q : X → Type 0) → ((x : X) → P x → Q x) → (xs : List X) → Each P xs → Each Q xs
each_map P Q f [] h = tt
each_map P Q f (x ∷ xs) h = (f x h.0, each_map P Q f xs h.1)

-- what follows from two properties of each member holds of each
pub each_both : {X : Type 0} (P Q R : X → Type 0) → ((x : X) → P x → Q x → R x) → (xs : List X) → Each P xs → Each Q xs → Each R xs
each_both P Q R f [] p q = tt
each_both P Q R f (x ∷ xs) p q = (f x p.0 q.0, each_both P Q R f xs p.1 q.1)

-- what holds of each member holds of the one at an index
pub each_get : {X : Type 0} (P : X → Type 0) (xs : List X) (k : ℕ) (d : X) → k < length xs → Each P xs → P (get_or xs k d)
each_get P [] k d lt h = absurd (omega arith)
each_get P (x ∷ xs) zero d lt h = h.0
each_get P (x ∷ xs) (suc k) d lt h = each_get P xs k d (omega arith) h.1

-- what holds of each member holds of each element that the list contains
pub each_contains : {X : Type 0} (P : X → Type 0) (xs : List X) (x : X) → Each P xs → Contains xs x → P x
each_contains P xs x h has = subst P has.2 (each_get P xs has.0 x has.1 h)

-- what holds of each member still does where one is set to an element with it
pub each_set : {X : Type 0} (P : X → Type 0) (xs : List X) (k : ℕ) (y : X) → Each P xs → P y → Each P (set xs k y)
each_set P [] k y h p = tt
each_set P (x ∷ xs) zero y h p = (p, h.1)
each_set P (x ∷ xs) (suc k) y h p = (h.0, each_set P xs k y h.1 p)

-- what holds of an element holds of each member of a list of it alone
pub each_replicate : {X : Type 0} (P : X → Type 0) (n : ℕ) (x : X) → P x → Each P (replicate n x)
each_replicate P zero x p = tt
each_replicate P (suc n) x p = (p, each_replicate P n x p)

-- what holds of each member holds of the first ones
pub each_take : {X : Type 0} (P : X → Type 0) (k : ℕ) (xs : List X) → Each P xs → Each P (take k xs)
each_take P zero xs h = tt
each_take P (suc k) [] h = tt
each_take P (suc k) (x ∷ xs) h = (h.0, each_take P k xs h.1)

-- what holds of each member holds of all but the first ones
pub each_drop : {X : Type 0} (P : X → Type 0) (k : ℕ) (xs : List X) → Each P xs → Each P (drop k xs)
each_drop P zero xs h = h
each_drop P (suc k) [] h = tt
each_drop P (suc k) (x ∷ xs) h = each_drop P k xs h.1

-- what holds of each member of two lists holds of each of both together
pub each_append : {X : Type 0} (P : X → Type 0) (xs ys : List X) → Each P xs → Each P ys → Each P (xs ++ ys)
each_append P [] ys h g = g
each_append P (x ∷ xs) ys h g = (h.0, each_append P xs ys h.1 g)

-- what holds of the element at each index holds of each member
pub each_from : {X : Type 0} (P : X → Type 0) (xs : List X) (d : X) → ((k : ℕ) → k < length xs → P (get_or xs k d)) → Each P xs
each_from P [] d h = tt
each_from P (x ∷ xs) d h = (h 0 (omega arith), each_from P xs d (λ k lt. h (suc k) (omega (arith, lt))))

-- what holds of the element at each index below one holds of each of the first members
pub each_take_from : {X : Type 0} (P : X → Type 0) (k : ℕ) (xs : List X) (d : X) → k ≤ length xs
    → ((i : ℕ) → i < k → P (get_or xs i d)) → Each P (take k xs)
each_take_from P zero xs d le h = tt
each_take_from P (suc k) [] d le h = tt
each_take_from P (suc k) (x ∷ xs) d le h =
    (h 0 (omega arith), each_take_from P k xs d (omega (arith, le)) (λ i lt. h (suc i) (omega (arith, lt))))

-- what holds of the element at each index from one on holds of each of the others
pub each_drop_from : {X : Type 0} (P : X → Type 0) (k : ℕ) (xs : List X) (d : X)
    → ((i : ℕ) → k ≤ i → i < length xs → P (get_or xs i d)) → Each P (drop k xs)
each_drop_from P zero xs d h = each_from P xs d (λ i lt. h i (omega arith) lt)
each_drop_from P (suc k) [] d h = tt
each_drop_from P (suc k) (x ∷ xs) d h = each_drop_from P k xs d (λ i le lt. h (suc i) (omega (arith, le)) (omega (arith, lt)))

-- what holds of all members but one holds of each where that is set to an element with it
pub each_set_but : {X : Type 0} (P : X → Type 0) (xs : List X) (k : ℕ) (y d : X) → ((i : ℕ) → i < length xs → i ≢ k → P (get_or xs i d))
    → P y → Each P (set xs k y)
each_set_but P [] k y d h p = tt
each_set_but P (x ∷ xs) zero y d h p = (p, each_from P xs d (λ i lt. h (suc i) (omega (arith, lt)) (λ e. omega (arith, e))))
each_set_but P (x ∷ xs) (suc k) y d h p = (
  h 0 (omega arith) (λ e. omega (arith, e)),
  each_set_but P xs k y d (λ i lt ne. h (suc i) (omega (arith, lt)) (λ e. ne (omega (arith, e)))) p,
)

-- what holds of each member where one is set holds of the element set
pub each_at_set : {X : Type 0} (P : X → Type 0) (xs : List X) (k : ℕ) (y : X) → k < length xs → Each P (set xs k y) → P y
each_at_set P [] k y lt h = absurd (omega arith)
each_at_set P (x ∷ xs) zero y lt h = h.0
each_at_set P (x ∷ xs) (suc k) y lt h = each_at_set P xs k y (omega (arith, lt)) h.1

-- what holds of each member where one is set, and of that one before, holds of each before
pub each_unset : {X : Type 0} (P : X → Type 0) (xs : List X) (k : ℕ) (y d : X) → k < length xs → Each P (set xs k y) → P (get_or xs k d)
    → Each P xs
each_unset P [] k y d lt h p = tt
each_unset P (x ∷ xs) zero y d lt h p = (p, h.1)
each_unset P (x ∷ xs) (suc k) y d lt h p = (h.0, each_unset P xs k y d (omega (arith, lt)) h.1 p)

-- what holds of each member holds of the one in the middle
pub each_middle : {X : Type 0} (P : X → Type 0) (xs ys : List X) (y : X) → Each P (xs ++ y ∷ ys) → P y
each_middle P [] ys y h = h.0
each_middle P (x ∷ xs) ys y h = each_middle P xs ys y h.1

-- what holds of each member still does where the one in the middle is taken out
pub each_out : {X : Type 0} (P : X → Type 0) (xs ys : List X) (y : X) → Each P (xs ++ y ∷ ys) → Each P (xs ++ ys)
each_out P [] ys y h = h.1
each_out P (x ∷ xs) ys y h = (h.0, each_out P xs ys y h.1)

-- what holds of each member still does where an element with it is put into the middle
pub each_in : {X : Type 0} (P : X → Type 0) (xs ys : List X) (y : X) → Each P (xs ++ ys) → P y → Each P (xs ++ y ∷ ys)
each_in P [] ys y h p = (p, h)
each_in P (x ∷ xs) ys y h p = (h.0, each_in P xs ys y h.1 p)

-- what holds of each member of two lists together holds of each of both
pub each_split : {X : Type 0} (P : X → Type 0) (xs ys : List X) → Each P (xs ++ ys) → Each P xs × Each P ys
each_split P [] ys h = (tt, h)
each_split P (x ∷ xs) ys h = let r = each_split P xs ys h.1 in ((h.0, r.0), r.1)
