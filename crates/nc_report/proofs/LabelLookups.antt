-- The label of an address, as a binary search finds it.
use Rattle.std.proofs.Common.{◌≡◌, ◌<◌, ◌≤◌, ◌-◌, ℕ, zero, suc, Bool, true, false, List, [], ◌∷◌, filter, take, length, slice_get, cond, leb, refl, sym, ◌∙◌, ap, arith, slice_index_or, Some, None}
use Rattle.std.proofs.lemmas.List.{length-take-le}
use Rattle.std.specs.List.{AllWithin}
use Rattle.std.specs.List.Sorted.{IsPartitionPoint}
use Rattle.nc_report.specs.Labels.{label_of}
use Rattle.nc_report.specs.declared.labels.Label.{Label}

-- what passes a test that holds below a place, and not from there on, is what is below the place
filter_front : {X : Type 0} (p : X → Bool) (xs : List X) (i : ℕ) → i ≤ length xs → AllWithin (λ y. p y ≡ true) xs 0 i
    → AllWithin (λ y. p y ≡ false) xs i (length xs) → filter p xs ≡ take i xs
filter_front p [] zero le low high = refl
filter_front p [] (suc i) le low high = refl
filter_front p (x ∷ xs) zero le low high =
    ap (λ (b : Bool). cond b (x ∷ filter p xs) (filter p xs)) (high 0 x (omega arith) (omega arith))
    ∙ filter_front p xs zero (omega arith) (λ k d a b. absurd (omega (arith, b))) (λ k d a b. high (suc k) d (omega arith) (omega (arith, b)))
filter_front p (x ∷ xs) (suc i) le low high =
    ap (λ (b : Bool). cond b (x ∷ filter p xs) (filter p xs)) (low 0 x (omega arith) (omega arith))
    ∙ ap (λ (ys : List _). x ∷ ys)
    (filter_front p xs i (omega (arith, le)) (λ k d a b. low (suc k) d (omega arith) (omega (arith, b)))
    (λ k d a b. high (suc k) d (omega (arith, a)) (omega (arith, b))))

-- an element below a place
front_get : {X : Type 0} (xs : List X) (i k : ℕ) → k < i → slice_get (take i xs) k ≡ slice_get xs k
front_get xs zero k lt = absurd (omega (arith, lt))
front_get [] (suc i) k lt = refl
front_get (x ∷ xs) (suc i) zero lt = refl
front_get (x ∷ xs) (suc i) (suc k) lt = front_get xs i k (omega (arith, lt))

-- an element that was read by its index
pub element : {X : Type 0} (xs : List X) (i : ℕ) (x : X) → i < length xs → x ≡ slice_index_or xs i x → Some x ≡ slice_get xs i
element [] i x lt e = absurd (omega (arith, lt))
element (y ∷ xs) zero x lt e = ap Some e
element (y ∷ xs) (suc i) x lt e = element xs i x (omega (arith, lt)) e

-- the labels below this place, and no others, are at the address or below it
abbrev pub Divides : List Label → ℕ → ℕ → Type 0
Divides labels at i = (i ≤ length labels) × IsPartitionPoint (λ (l : Label). leb l.address at ≡ true) (λ (l : Label). leb l.address at ≡ false) labels i

-- the address has no label if there are no such labels
pub none_found : (labels : List Label) (at i : ℕ) → Divides labels at i → i ≡ 0 → None ≡ label_of labels at
none_found labels at zero (le, (low, high)) none =
    ap (λ (ls : List Label). slice_get ls (length ls - 1)) (sym (filter_front (λ (l : Label). leb l.address at) labels 0 le low high))
none_found labels at (suc i) h none = absurd (omega (arith, none))

-- otherwise it has the last of them
pub last_found : (labels : List Label) (at i : ℕ) → Divides labels at i → 0 < i → label_of labels at ≡ slice_get labels (i - 1)
last_found labels at i (le, (low, high)) some =
    ap (λ (ls : List Label). slice_get ls (length ls - 1)) (filter_front (λ (l : Label). leb l.address at) labels i le low high)
    ∙ ap (λ (n : ℕ). slice_get (take i labels) (n - 1)) (length-take-le i labels le)
    ∙ front_get labels i (i - 1) (omega (arith, some))
