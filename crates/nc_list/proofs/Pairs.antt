-- Two neighbours in a list, lent apart.
use Rattle.std.proofs.Common.{◌≡◌, ℕ, suc, ◌+◌, ◌<◌, List, [], ◌∷◌, ◌++◌, length, get_or, set, take, drop, map, sym, ap, ◌∙◌, arith}
use Rattle.std.specs.List.{remove}
use Rattle.std.proofs.lemmas.List.{length-append, length-set, length-take-le, length-drop, take_at, drop_at, take_all, take-take, take_more_set, drop-set-lt, drop-drop, map-append, get_or-take, get_or-drop, take-append-drop}
use Rattle.nc_list.specs.declared.chunk.Chunk.{Chunk}
use Rattle.nc_list.proofs.Parting.{kept_parts, joined_parts}
use Rattle.nc_list.proofs.Pieces.{part_is}

-- a list with two neighbours set is as long as it was
pub pair_long : {X : Type 0} (xs : List X) (k : ℕ) (p q : X) → k + 1 < length xs
    → length (set (take (k + 1) xs) k p ++ set (drop (k + 1) xs) 0 q) ≡ length xs
pair_long xs k p q lt =
    omega (
      arith,
      lt,
      length-append (set (take (k + 1) xs) k p) (set (drop (k + 1) xs) 0 q),
      length-set (take (k + 1) xs) k p,
      length-set (drop (k + 1) xs) 0 q,
      length-take-le (k + 1) xs (omega (arith, lt)),
      length-drop (k + 1) xs,
    )

-- setting the first of two neighbours in the front is setting it in the list
front_set : {X : Type 0} (xs : List X) (k : ℕ) (p : X) → k + 1 < length xs → set (take (k + 1) xs) k p ≡ take (k + 1) (set xs k p)
front_set {X = X} xs k p lt =
    let n = length-take-le (k + 1) xs (omega (arith, lt)) in
    sym (take_all (k + 1) (set (take (k + 1) xs) k p) (omega (arith, n, length-set (take (k + 1) xs) k p)))
    ∙ (take_more_set (take (k + 1) xs) k p (omega (arith, n))
    ∙ (ap (λ (z : List X). z ++ p ∷ []) (take-take k (k + 1) xs (omega arith)) ∙ sym (take_more_set xs k p (omega (arith, lt)))))

pub pair_removed : {X : Type 0} (xs : List X) (k : ℕ) (p q : X) → k + 1 < length xs
    → remove (set (take (k + 1) xs) k p ++ set (drop (k + 1) xs) 0 q) (k + 1) ≡ remove (set xs k p) (k + 1)
pair_removed {X = X} xs k p q lt =
    let front = set (take (k + 1) xs) k p in
    let back = set (drop (k + 1) xs) 0 q in
    let long : length front ≡ k + 1 = length-set (take (k + 1) xs) k p ∙ length-take-le (k + 1) xs (omega (arith, lt)) in
    let next : suc (k + 1) ≡ k + 1 + 1 = omega arith in
    ap (λ (z : List X). z ++ drop (suc (k + 1)) (front ++ back)) (take_at front back (k + 1) long ∙ front_set xs k p lt)
    ∙ ap (λ (z : List X). take (k + 1) (set xs k p) ++ z)
    (ap (λ (n : ℕ). drop n (front ++ back)) next
    ∙ (sym (drop-drop 1 (k + 1) (front ++ back))
    ∙ (ap (drop 1) (drop_at front back (k + 1) long)
    ∙ (drop-set-lt 1 (drop (k + 1) xs) 0 q (omega arith)
    ∙ (drop-drop 1 (k + 1) xs
    ∙ (ap (λ (n : ℕ). drop n xs) (sym next) ∙ sym (drop-set-lt (suc (k + 1)) xs k p (omega arith))))))))

-- a list with two neighbours set that keep their chunks has the chunks that it had
pub pair_kept : {X : Type 0} (f : X → List Chunk) (xs : List X) (k : ℕ) (a b p q : X) → k + 1 < length xs
    → a ≡ get_or (take (k + 1) xs) k a → b ≡ get_or (drop (k + 1) xs) 0 b → f p ≡ f a → f q ≡ f b
    → map f (set (take (k + 1) xs) k p ++ set (drop (k + 1) xs) 0 q) ≡ map f xs
pair_kept f xs k a b p q lt is also same equal =
    let n = length-take-le (k + 1) xs (omega (arith, lt)) in
    let m = length-drop (k + 1) xs in
    map-append f (set (take (k + 1) xs) k p) (set (drop (k + 1) xs) 0 q)
    ∙ (ap (λ (z : List (List Chunk)). z ++ map f (set (drop (k + 1) xs) 0 q))
    (kept_parts f (take (k + 1) xs) k a p (omega (arith, n)) is same)
    ∙ (ap (λ (z : List (List Chunk)). map f (take (k + 1) xs) ++ z)
    (kept_parts f (drop (k + 1) xs) 0 b q (omega (arith, m, lt)) also equal)
    ∙ (sym (map-append f (take (k + 1) xs) (drop (k + 1) xs)) ∙ ap (map f) (take-append-drop (k + 1) xs))))

-- the chunks of the neighbour read from the front are those at its index
pub pair_first : {X : Type 0} (f : X → List Chunk) (xs : List X) (k : ℕ) (a : X) → k + 1 < length xs → a ≡ get_or (take (k + 1) xs) k a
    → f a ≡ get_or (map f xs) k []
pair_first f xs k a lt is =
    part_is f xs k a (omega (arith, lt)) (is ∙ get_or-take (k + 1) xs k a (omega arith))

pub pair_second : {X : Type 0} (f : X → List Chunk) (xs : List X) (k : ℕ) (b : X) → k + 1 < length xs → b ≡ get_or (drop (k + 1) xs) 0 b
    → f b ≡ get_or (map f xs) (suc k) []
pair_second {X = X} f xs k b lt is =
    let next : k + 1 + 0 ≡ suc k = omega arith in
    part_is f xs (suc k) b (omega (arith, lt)) (is ∙ (get_or-drop (k + 1) xs 0 b ∙ ap (λ (n : ℕ). get_or xs n b) next))

-- the chunks of the list as it is written back, with the second neighbour removed
pub joined_pair : {X : Type 0} (f : X → List Chunk) (xs front back : List X) (k n : ℕ) (p q : X) → k + 1 < length xs → length xs ≡ n
    → front ≡ take (k + 1) xs → back ≡ drop (k + 1) xs
    → map f (remove (take n (set front k p ++ set back 0 q ++ drop (length (set front k p ++ set back 0 q)) xs)) (k + 1))
    ≡ remove (set (map f xs) k (f p)) (k + 1)
joined_pair {X = X} f xs front back k n p q lt long is also =
    let ys = set (take (k + 1) xs) k p ++ set (drop (k + 1) xs) 0 q in
    ap (λ (z : List X). map f (remove (take n (set z k p ++ set back 0 q ++ drop (length (set z k p ++ set back 0 q)) xs)) (k + 1))) is
    ∙ (ap (λ (z : List X). map f (remove (take n (set (take (k + 1) xs) k p ++ set z 0 q
    ++ drop (length (set (take (k + 1) xs) k p ++ set z 0 q)) xs)) (k + 1))) also
    ∙ (ap (λ (z : List X). map f (remove z (k + 1))) (take_at ys (drop (length ys) xs) n (pair_long xs k p q lt ∙ long))
    ∙ (ap (map f) (pair_removed xs k p q lt) ∙ joined_parts f xs k p)))

-- the chunks of the list as it is written back, where both neighbours keep theirs
pub unjoined_pair : {X : Type 0} (f : X → List Chunk) (xs front back : List X) (k n : ℕ) (a b p q : X) → k + 1 < length xs → length xs ≡ n
    → front ≡ take (k + 1) xs → back ≡ drop (k + 1) xs → a ≡ get_or front k a → b ≡ get_or back 0 b
    → f p ≡ f (get_or front k a) → f q ≡ f (get_or back 0 b)
    → map f (take n (set front k p ++ set back 0 q ++ drop (length (set front k p ++ set back 0 q)) xs)) ≡ map f xs
unjoined_pair {X = X} f xs front back k n a b p q lt long is also first second same equal =
    let ys = set (take (k + 1) xs) k p ++ set (drop (k + 1) xs) 0 q in
    ap (λ (z : List X). map f (take n (set z k p ++ set back 0 q ++ drop (length (set z k p ++ set back 0 q)) xs))) is
    ∙ (ap (λ (z : List X). map f (take n (set (take (k + 1) xs) k p ++ set z 0 q
    ++ drop (length (set (take (k + 1) xs) k p ++ set z 0 q)) xs))) also
    ∙ (ap (map f) (take_at ys (drop (length ys) xs) n (pair_long xs k p q lt ∙ long))
    ∙ pair_kept f xs k a b p q lt (first ∙ ap (λ (z : List X). get_or z k a) is) (second ∙ ap (λ (z : List X). get_or z 0 b) also)
    (same ∙ ap f (sym first)) (equal ∙ ap f (sym second))))

-- the chunks that were joined
pub joined_are : {X : Type 0} (f : X → List Chunk) (xs front back : List X) (k : ℕ) (a b p : X) → k + 1 < length xs
    → front ≡ take (k + 1) xs → back ≡ drop (k + 1) xs → a ≡ get_or front k a → b ≡ get_or back 0 b
    → f p ≡ f (get_or front k a) ++ f (get_or back 0 b) → f p ≡ get_or (map f xs) k [] ++ get_or (map f xs) (suc k) []
joined_are {X = X} f xs front back k a b p lt is also first second joined =
    joined
    ∙ (ap (λ (z : List Chunk). z ++ f (get_or back 0 b))
    (ap f (sym first) ∙ pair_first f xs k a lt (first ∙ ap (λ (z : List X). get_or z k a) is))
    ∙ ap (λ (z : List Chunk). get_or (map f xs) k [] ++ z)
    (ap f (sym second) ∙ pair_second f xs k b lt (second ∙ ap (λ (z : List X). get_or z 0 b) also)))
