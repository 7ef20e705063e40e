-- Chunks in parts.
use Rattle.std.proofs.Common.{◌≡◌, ℕ, zero, suc, ◌+◌, ◌-◌, ◌<◌, ◌≤◌, List, [], ◌∷◌, ◌++◌, length, get_or, set, take, drop, map, refl, sym, ap, ◌∙◌, arith, append-nil}
use Rattle.std.proofs.lemmas.List.{length-append, length-map, get_or-map, take_more}
use Rattle.std.proofs.lemmas.List.Concat.{flat_map-append}
use Rattle.nc_list.specs.declared.chunk.Chunk.{Chunk}
use Rattle.nc_base.specs.Each.{Each}
use Rattle.nc_list.specs.Parts.{all_of, starts_of, HaveSome}
use Rattle.nc_base.proofs.Offered.{each_map, each_get}

-- the chunks of parts one behind the other
pub all_append : (xs ys : List (List Chunk)) → all_of (xs ++ ys) ≡ all_of xs ++ all_of ys
all_append xs ys = flat_map-append (λ (p : List Chunk). p) xs ys

-- the starts of parts one behind the other
pub starts_append : (from : ℕ) (xs ys : List (List Chunk))
    → starts_of from (xs ++ ys) ≡ starts_of from xs ++ starts_of (from + length (all_of xs)) ys
starts_append from [] ys = ap (λ (n : ℕ). starts_of n ys) (omega arith)
starts_append from (p ∷ xs) ys =
    let e : from + length p + length (all_of xs) ≡ from + length (p ++ all_of xs) = omega (arith, length-append p (all_of xs)) in
    ap (λ (ns : List ℕ). from ∷ ns)
    (starts_append (from + length p) xs ys ∙ ap (λ (n : ℕ). starts_of (from + length p) xs ++ starts_of n ys) e)

-- the starts of parts behind more chunks are higher by as many
pub starts_more : (from by : ℕ) (xs : List (List Chunk)) → starts_of (from + by) xs ≡ map (λ (n : ℕ). n + by) (starts_of from xs)
starts_more from by [] = refl
starts_more from by (p ∷ xs) =
    let e : from + by + length p ≡ from + length p + by = omega arith in
    ap (λ (ns : List ℕ). (from + by) ∷ ns) (ap (λ (n : ℕ). starts_of n xs) e ∙ starts_more (from + length p) by xs)

-- the starts of parts behind fewer chunks are lower by as many
pub starts_less : (from by : ℕ) (xs : List (List Chunk)) → map (λ (n : ℕ). n - by) (starts_of (from + by) xs) ≡ starts_of from xs
starts_less from by [] = refl
starts_less from by (p ∷ xs) =
    let e : from + by + length p ≡ from + length p + by = omega arith in
    let f : from + by - by ≡ from = omega arith in
    ap (λ (n : ℕ). n ∷ map (λ (m : ℕ). m - by) (starts_of (from + by + length p) xs)) f
    ∙ ap (λ (ns : List ℕ). from ∷ ns)
    (ap (λ (n : ℕ). map (λ (m : ℕ). m - by) (starts_of n xs)) e ∙ starts_less (from + length p) by xs)

-- there are as many starts as parts
pub starts_long : (from : ℕ) (xs : List (List Chunk)) → length (starts_of from xs) ≡ length xs
starts_long from [] = refl
starts_long from (p ∷ xs) = ap suc (starts_long (from + length p) xs)

-- no start is lower than the first
pub starts_low : (from : ℕ) (xs : List (List Chunk)) → Each (λ (n : ℕ). from ≤ n) (starts_of from xs)
starts_low from [] = tt
starts_low from (p ∷ xs) = (
  omega arith,
  each_map (λ (n : ℕ). from + length p ≤ n) (λ (n : ℕ). from ≤ n) (λ n h. omega (arith, h)) (starts_of (from + length p) xs)
      (starts_low (from + length p) xs),
)

-- no start is higher than the first one plus the number of chunks
pub starts_high : (from : ℕ) (xs : List (List Chunk)) → Each (λ (n : ℕ). n ≤ from + length (all_of xs)) (starts_of from xs)
starts_high from [] = tt
starts_high from (p ∷ xs) = (
  omega arith,
  each_map (λ (n : ℕ). n ≤ from + length p + length (all_of xs)) (λ (n : ℕ). n ≤ from + length (p ++ all_of xs))
      (λ n h. omega (arith, h, length-append p (all_of xs))) (starts_of (from + length p) xs) (starts_high (from + length p) xs),
)

-- the start at an index is the first one plus the number of chunks in the parts before it
pub starts_get : (from : ℕ) (xs : List (List Chunk)) (k d : ℕ) → k < length xs
    → get_or (starts_of from xs) k d ≡ from + length (all_of (take k xs))
starts_get from [] k d lt = absurd (omega (arith, lt))
starts_get from (p ∷ xs) zero d lt = omega arith
starts_get from (p ∷ xs) (suc k) d lt =
    starts_get (from + length p) xs k d (omega (arith, lt)) ∙ omega (arith, length-append p (all_of (take k xs)))

-- a list around the element at an index
pub around : {X : Type 0} (xs : List X) (k : ℕ) (d : X) → k < length xs → xs ≡ take k xs ++ get_or xs k d ∷ drop (suc k) xs
around {X = X} [] k d lt = absurd (omega (arith, lt))
around {X = X} (x ∷ xs) zero d lt = refl
around {X = X} (x ∷ xs) (suc k) d lt = ap (λ (ys : List X). x ∷ ys) (around xs k d (omega (arith, lt)))

-- a list around the element that is set at an index
pub around_set : {X : Type 0} (xs : List X) (k : ℕ) (y : X) → k < length xs → set xs k y ≡ take k xs ++ y ∷ drop (suc k) xs
around_set {X = X} [] k y lt = absurd (omega (arith, lt))
around_set {X = X} (x ∷ xs) zero y lt = refl
around_set {X = X} (x ∷ xs) (suc k) y lt = ap (λ (ys : List X). x ∷ ys) (around_set xs k y (omega (arith, lt)))

-- the chunks before, in and behind a part
pub all_around : (before : List (List Chunk)) (here : List Chunk) (after : List (List Chunk))
    → all_of (before ++ here ∷ after) ≡ all_of before ++ (here ++ all_of after)
all_around before here after = all_append before (here ∷ after)

-- the starts before, at and behind a part
pub starts_around : (before : List (List Chunk)) (here : List Chunk) (after : List (List Chunk)) (n : ℕ) → n ≡ length (all_of before)
    → starts_of 0 (before ++ here ∷ after) ≡ starts_of 0 before ++ n ∷ starts_of (n + length here) after
starts_around before here after n is =
    let e : 0 + length (all_of before) ≡ n = omega (arith, is) in
    starts_append 0 before (here ∷ after) ∙ ap (λ (m : ℕ). starts_of 0 before ++ starts_of m (here ∷ after)) e

-- a part of a row, by what it is read as
pub part_is : {X : Type 0} (f : X → List Chunk) (xs : List X) (k : ℕ) (p : X) → k < length xs → p ≡ get_or xs k p
    → f p ≡ get_or (map f xs) k []
part_is f xs k p lt is = ap f is ∙ sym (get_or-map f xs k p [] lt)

-- an index of a list is one of another whose elements are read as the same
pub inside_too : {X : Type 0} (f : X → List Chunk) (xs olds : List X) (k : ℕ) → map f xs ≡ map f olds → k < length olds → k < length xs
inside_too f xs olds k same lt =
    omega (arith, lt, ap (λ (z : List (List Chunk)). length z) same, length-map xs f, length-map olds f)

-- where there are several parts, each has a chunk
pub some_at : (parts : List (List Chunk)) (k : ℕ) → HaveSome parts → 1 < length parts → k < length parts → 0 < length (get_or parts k [])
some_at parts k have several lt = each_get (λ (p : List Chunk). 0 < length p) parts k [] lt (have several)

-- the chunks of the first parts and one more
pub all_more : (parts : List (List Chunk)) (k : ℕ) → k < length parts
    → all_of (take (k + 1) parts) ≡ all_of (take k parts) ++ get_or parts k []
all_more parts k lt =
    ap all_of (take_more parts k [] lt)
    ∙ (all_append (take k parts) (get_or parts k [] ∷ []) ∙ ap (λ (z : List Chunk). all_of (take k parts) ++ z) (append-nil (get_or parts k [])))
