-- Parts of a row split, removed and joined.
use Rattle.std.proofs.Common.{◌≡◌, ℕ, suc, ◌+◌, ◌<◌, ◌≤◌, List, [], ◌∷◌, ◌++◌, length, get_or, set, take, drop, map, refl, sym, ap, ◌∙◌, arith, subst, append_assoc, drop-cons, inl, inr, Option, Some, None, MatchOption}
use Rattle.std.specs.List.{insert, remove}
use Rattle.std.proofs.lemmas.Bool.{cases_lt}
use Rattle.std.proofs.lemmas.List.{length-append, length-map, length-take-le, take_at, drop_at, take_more_set, drop-set-lt, drop_all, map-append, map-set, take-map, drop-map, get_or-set_same, get_or_default}
use Rattle.nc_list.specs.declared.chunk.Chunk.{Chunk}
use Rattle.nc_base.specs.Each.{Each}
use Rattle.nc_list.specs.Parts.{HaveSome, OthersHaveSome, AreParted, all_of, starts_of}
use Rattle.nc_base.proofs.Offered.{each_append, each_take, each_drop}
use Rattle.nc_list.proofs.Pieces.{all_append, all_around, around, around_set, starts_append, starts_around, starts_long, starts_get, some_at, part_is}

-- a list with one more element, element by element
map_insert : {X : Type 0} (f : X → List Chunk) (xs : List X) (i : ℕ) (y : X) → map f (insert xs i y) ≡ insert (map f xs) i (f y)
map_insert f xs i y =
    map-append f (take i xs) (y ∷ drop i xs)
    ∙ (ap (λ (z : List (List Chunk)). z ++ f y ∷ map f (drop i xs)) (sym (take-map f i xs))
    ∙ ap (λ (z : List (List Chunk)). take i (map f xs) ++ f y ∷ z) (sym (drop-map f i xs)))

-- the chunks of parts of which one is removed
pub map_remove : {X : Type 0} (f : X → List Chunk) (xs : List X) (i : ℕ) → map f (remove xs i) ≡ remove (map f xs) i
map_remove f xs i =
    map-append f (take i xs) (drop (suc i) xs)
    ∙ (ap (λ (z : List (List Chunk)). z ++ map f (drop (suc i) xs)) (sym (take-map f i xs))
    ∙ ap (λ (z : List (List Chunk)). take i (map f xs) ++ z) (sym (drop-map f (suc i) xs)))

-- parts of which one is set to what it was are the same
set_same : (parts : List (List Chunk)) (k : ℕ) (p : List Chunk) → k < length parts → p ≡ get_or parts k [] → set parts k p ≡ parts
set_same parts k p lt is =
    around_set parts k p lt
    ∙ (ap (λ (z : List Chunk). take k parts ++ z ∷ drop (suc k) parts) is ∙ sym (around parts k [] lt))

-- a part that keeps its chunks
same_parts : {X : Type 0} (f : X → List Chunk) (xs : List X) (k : ℕ) (p : X) → k < length xs → f p ≡ get_or (map f xs) k []
    → map f (set xs k p) ≡ map f xs
same_parts f xs k p lt is = map-set f xs k p ∙ set_same (map f xs) k (f p) (omega (arith, lt, length-map xs f)) is

-- a list up to an element and with it
pub take_seam : {X : Type 0} (xs : List X) (y : X) (ys : List X) (k : ℕ) → length xs ≡ k → take (k + 1) (xs ++ y ∷ ys) ≡ xs ++ y ∷ []
take_seam {X = X} xs y ys k long =
    ap (take (k + 1)) (sym (append_assoc xs (y ∷ []) ys))
    ∙ take_at (xs ++ y ∷ []) ys (k + 1) (omega (arith, length-append xs (y ∷ []), long))

pub drop_seam : {X : Type 0} (xs : List X) (y : X) (ys : List X) (k : ℕ) → length xs ≡ k → drop (k + 1) (xs ++ y ∷ ys) ≡ ys
drop_seam {X = X} xs y ys k long =
    ap (drop (k + 1)) (sym (append_assoc xs (y ∷ []) ys))
    ∙ drop_at (xs ++ y ∷ []) ys (k + 1) (omega (arith, length-append xs (y ∷ []), long))

-- the starts around a part
pub starts_at : (parts : List (List Chunk)) (starts : List ℕ) (k n : ℕ) → k < length parts → starts ≡ starts_of 0 parts → n ≡ get_or starts k 0
    → starts ≡ starts_of 0 (take k parts) ++ n ∷ starts_of (n + length (get_or parts k [])) (drop (suc k) parts)
starts_at parts starts k n lt are is =
    let count : n ≡ length (all_of (take k parts)) =
    omega (arith, is, ap (λ (z : List ℕ). get_or z k 0) are, starts_get 0 parts k 0 lt) in
    are ∙ (ap (starts_of 0) (around parts k [] lt) ∙ starts_around (take k parts) (get_or parts k []) (drop (suc k) parts) n count)

-- the starts before a part are as many as the parts before it
pub starts_before : (parts : List (List Chunk)) (k : ℕ) → k < length parts → length (starts_of 0 (take k parts)) ≡ k
starts_before parts k lt = starts_long 0 (take k parts) ∙ length-take-le k parts (omega (arith, lt))

-- a part split in two
split_form : (parts : List (List Chunk)) (k : ℕ) (lower upper : List Chunk) → k < length parts
    → insert (set parts k lower) (k + 1) upper ≡ take k parts ++ lower ∷ (upper ∷ drop (suc k) parts)
split_form parts k lower upper lt =
    let next : k + 1 ≡ suc k = omega arith in
    ap (λ (z : List (List Chunk)). z ++ upper ∷ drop (k + 1) (set parts k lower)) (take_more_set parts k lower lt)
    ∙ (ap (λ (z : List (List Chunk)). (take k parts ++ lower ∷ []) ++ upper ∷ z) (drop-set-lt (k + 1) parts k lower (omega arith)
    ∙ ap (λ (n : ℕ). drop n parts) next)
    ∙ append_assoc (take k parts) (lower ∷ []) (upper ∷ drop (suc k) parts))

split_all : (parts : List (List Chunk)) (k : ℕ) (lower upper : List Chunk) → k < length parts → get_or parts k [] ≡ lower ++ upper
    → all_of (insert (set parts k lower) (k + 1) upper) ≡ all_of parts
split_all parts k lower upper lt is =
    ap all_of (split_form parts k lower upper lt)
    ∙ (all_around (take k parts) lower (upper ∷ drop (suc k) parts)
    ∙ (ap (λ (z : List Chunk). all_of (take k parts) ++ z) (sym (append_assoc lower upper (all_of (drop (suc k) parts))))
    ∙ (ap (λ (z : List Chunk). all_of (take k parts) ++ (z ++ all_of (drop (suc k) parts))) (sym is)
    ∙ sym (ap all_of (around parts k [] lt) ∙ all_around (take k parts) (get_or parts k []) (drop (suc k) parts)))))

split_starts_are : (parts : List (List Chunk)) (starts : List ℕ) (k n : ℕ) (lower upper : List Chunk) → k < length parts
    → get_or parts k [] ≡ lower ++ upper → starts ≡ starts_of 0 parts → n ≡ get_or starts k 0
    → insert starts (k + 1) (n + length lower) ≡ starts_of 0 (insert (set parts k lower) (k + 1) upper)
split_starts_are parts starts k n lower upper lt here are is =
    let before = starts_of 0 (take k parts) in
    let after = drop (suc k) parts in
    let long = starts_before parts k lt in
    let count : n ≡ length (all_of (take k parts)) =
    omega (arith, is, ap (λ (z : List ℕ). get_or z k 0) are, starts_get 0 parts k 0 lt) in
    let form = starts_at parts starts k n lt are is in
    let sum : n + length (get_or parts k []) ≡ n + length lower + length upper =
    omega (arith, ap (λ (z : List Chunk). length z) here, length-append lower upper) in
    ap (λ (z : List ℕ). take (k + 1) z ++ (n + length lower) ∷ drop (k + 1) z) form
    ∙ (ap (λ (z : List ℕ). z ++ (n + length lower) ∷ drop (k + 1) (before ++ n ∷ starts_of (n + length (get_or parts k [])) after))
    (take_seam before n (starts_of (n + length (get_or parts k [])) after) k long)
    ∙ (ap (λ (z : List ℕ). (before ++ n ∷ []) ++ (n + length lower) ∷ z)
    (drop_seam before n (starts_of (n + length (get_or parts k [])) after) k long ∙ ap (λ (m : ℕ). starts_of m after) sum)
    ∙ (append_assoc before (n ∷ []) ((n + length lower) ∷ starts_of (n + length lower + length upper) after)
    ∙ sym (ap (starts_of 0) (split_form parts k lower upper lt) ∙ starts_around (take k parts) lower (upper ∷ after) n count))))

-- the parts around one have chunks, if all have
pub others_some : (parts : List (List Chunk)) (k : ℕ) → k < length parts → HaveSome parts
    → Each (λ (p : List Chunk). 0 < length p) (take k parts) × Each (λ (p : List Chunk). 0 < length p) (drop (suc k) parts)
others_some parts k lt have =
    elim (cases_lt 1 (length parts)) [
      | inl several ↦ (
        each_take (λ (p : List Chunk). 0 < length p) k parts (have several),
        each_drop (λ (p : List Chunk). 0 < length p) (suc k) parts (have several),
      )
      | inr one ↦ (
        let first : 0 ≡ k = omega (arith, one, lt) in
            subst (λ (n : ℕ). Each (λ (p : List Chunk). 0 < length p) (take n parts)) first tt,
        subst (Each (λ (p : List Chunk). 0 < length p)) (sym (drop_all (suc k) parts (omega (arith, one)))) tt,
      )
    ]

split_have : (parts : List (List Chunk)) (k : ℕ) (lower upper : List Chunk) → k < length parts → HaveSome parts → 0 < length lower
    → 0 < length upper → HaveSome (insert (set parts k lower) (k + 1) upper)
split_have parts k lower upper lt have some also = λ several.
    let o = others_some parts k lt have in
    subst (Each (λ (p : List Chunk). 0 < length p)) (sym (split_form parts k lower upper lt))
    (each_append (λ (p : List Chunk). 0 < length p) (take k parts) (lower ∷ (upper ∷ drop (suc k) parts)) o.0 (some, (also, o.1)))

-- removing an empty part leaves the chunks
pub removed_all : (parts : List (List Chunk)) (k : ℕ) → k < length parts → get_or parts k [] ≡ [] → all_of (remove parts k) ≡ all_of parts
removed_all parts k lt none =
    all_append (take k parts) (drop (suc k) parts)
    ∙ sym (ap all_of (around parts k [] lt) ∙ (all_around (take k parts) (get_or parts k []) (drop (suc k) parts)
    ∙ ap (λ (z : List Chunk). all_of (take k parts) ++ (z ++ all_of (drop (suc k) parts))) none))

pub removed_starts : (parts : List (List Chunk)) (starts : List ℕ) (k : ℕ) → k < length parts → get_or parts k [] ≡ []
    → starts ≡ starts_of 0 parts → remove starts k ≡ starts_of 0 (remove parts k)
removed_starts parts starts k lt none are =
    let n : ℕ = get_or starts k 0 in
    let before = starts_of 0 (take k parts) in
    let rest = starts_of (n + length (get_or parts k [])) (drop (suc k) parts) in
    let next : suc k ≡ k + 1 = omega arith in
    let count : n ≡ length (all_of (take k parts)) =
    omega (arith, ap (λ (z : List ℕ). get_or z k 0) are, starts_get 0 parts k 0 lt) in
    let sum : n + length (get_or parts k []) ≡ 0 + length (all_of (take k parts)) =
    omega (arith, count, ap (λ (z : List Chunk). length z) none) in
    ap (λ (z : List ℕ). take k z ++ drop (suc k) z) (starts_at parts starts k n lt are refl)
    ∙ (ap (λ (z : List ℕ). z ++ drop (suc k) (before ++ n ∷ rest)) (take_at before (n ∷ rest) k (starts_before parts k lt))
    ∙ (ap (λ (z : List ℕ). before ++ z) (ap (λ (m : ℕ). drop m (before ++ n ∷ rest)) next
    ∙ (drop_seam before n rest k (starts_before parts k lt) ∙ ap (λ (m : ℕ). starts_of m (drop (suc k) parts)) sum))
    ∙ sym (starts_append 0 (take k parts) (drop (suc k) parts))))

pub removed_have : (parts : List (List Chunk)) (k : ℕ) → OthersHaveSome parts k → 1 < length parts → HaveSome (remove parts k)
removed_have parts k others several = λ _.
    let o = others several in
    let next : k + 1 ≡ suc k = omega arith in
    each_append (λ (p : List Chunk). 0 < length p) (take k parts) (drop (suc k) parts) o.0
    (subst (λ (n : ℕ). Each (λ (p : List Chunk). 0 < length p) (drop n parts)) next o.1)

-- parts of which two are joined, part by part
join_form : (parts : List (List Chunk)) (k : ℕ) (joined : List Chunk) → suc k < length parts
    → remove (set parts k joined) (k + 1) ≡ take k parts ++ joined ∷ drop (suc (suc k)) parts
join_form parts k joined lt =
    let next : suc (k + 1) ≡ suc (suc k) = omega arith in
    ap (λ (z : List (List Chunk)). z ++ drop (suc (k + 1)) (set parts k joined)) (take_more_set parts k joined (omega (arith, lt)))
    ∙ (ap (λ (z : List (List Chunk)). (take k parts ++ joined ∷ []) ++ z)
    (drop-set-lt (suc (k + 1)) parts k joined (omega arith) ∙ ap (λ (n : ℕ). drop n parts) next)
    ∙ append_assoc (take k parts) (joined ∷ []) (drop (suc (suc k)) parts))

-- a list around two elements
around_two : (parts : List (List Chunk)) (k : ℕ) → suc k < length parts
    → parts ≡ take k parts ++ get_or parts k [] ∷ (get_or parts (suc k) [] ∷ drop (suc (suc k)) parts)
around_two parts k lt =
    around parts k [] (omega (arith, lt))
    ∙ ap (λ (z : List (List Chunk)). take k parts ++ get_or parts k [] ∷ z) (drop-cons parts (suc k) [] lt)

pub join_all : (parts : List (List Chunk)) (k : ℕ) (joined : List Chunk) → suc k < length parts
    → joined ≡ get_or parts k [] ++ get_or parts (suc k) [] → all_of (remove (set parts k joined) (k + 1)) ≡ all_of parts
join_all parts k joined lt is =
    let a = get_or parts k [] in
    let b = get_or parts (suc k) [] in
    let rest = drop (suc (suc k)) parts in
    ap all_of (join_form parts k joined lt)
    ∙ (all_around (take k parts) joined rest
    ∙ (ap (λ (z : List Chunk). all_of (take k parts) ++ (z ++ all_of rest)) is
    ∙ (ap (λ (z : List Chunk). all_of (take k parts) ++ z) (append_assoc a b (all_of rest))
    ∙ sym (ap all_of (around_two parts k lt) ∙ all_around (take k parts) a (b ∷ rest)))))

pub join_starts_are : (parts : List (List Chunk)) (starts : List ℕ) (k : ℕ) (joined : List Chunk) → suc k < length parts
    → joined ≡ get_or parts k [] ++ get_or parts (suc k) [] → starts ≡ starts_of 0 parts
    → remove starts (k + 1) ≡ starts_of 0 (remove (set parts k joined) (k + 1))
join_starts_are parts starts k joined lt is are =
    let a = get_or parts k [] in
    let b = get_or parts (suc k) [] in
    let rest = drop (suc (suc k)) parts in
    let before = starts_of 0 (take k parts) in
    let n : ℕ = length (all_of (take k parts)) in
    let long = starts_before parts k (omega (arith, lt)) in
    let long_next : length (before ++ n ∷ []) ≡ k + 1 = omega (arith, length-append before (n ∷ []), long) in
    let form : starts ≡ (before ++ n ∷ []) ++ (n + length a) ∷ starts_of (n + length a + length b) rest =
    are ∙ (ap (starts_of 0) (around_two parts k lt) ∙ (starts_around (take k parts) a (b ∷ rest) n refl
    ∙ sym (append_assoc before (n ∷ []) ((n + length a) ∷ starts_of (n + length a + length b) rest)))) in
    let tail = starts_of (n + length a + length b) rest in
    let sum : n + length a + length b ≡ n + length joined =
    omega (arith, ap (λ (z : List Chunk). length z) is, length-append a b) in
    let more : suc (k + 1) ≡ k + 1 + 1 = omega arith in
    ap (λ (z : List ℕ). take (k + 1) z ++ drop (suc (k + 1)) z) form
    ∙ (ap (λ (z : List ℕ). z ++ drop (suc (k + 1)) ((before ++ n ∷ []) ++ (n + length a) ∷ tail))
    (take_at (before ++ n ∷ []) ((n + length a) ∷ tail) (k + 1) long_next)
    ∙ (ap (λ (z : List ℕ). (before ++ n ∷ []) ++ z)
    (ap (λ (m : ℕ). drop m ((before ++ n ∷ []) ++ (n + length a) ∷ tail)) more
    ∙ (drop_seam (before ++ n ∷ []) (n + length a) tail (k + 1) long_next ∙ ap (λ (m : ℕ). starts_of m rest) sum))
    ∙ (append_assoc before (n ∷ []) (starts_of (n + length joined) rest)
    ∙ sym (ap (starts_of 0) (join_form parts k joined lt) ∙ starts_around (take k parts) joined rest n refl))))

pub join_have : (parts : List (List Chunk)) (k : ℕ) (joined : List Chunk) → suc k < length parts → HaveSome parts
    → joined ≡ get_or parts k [] ++ get_or parts (suc k) [] → HaveSome (remove (set parts k joined) (k + 1))
join_have parts k joined lt have is = λ several.
    let all = have (omega (arith, lt)) in
    let some : 0 < length joined =
    omega (
      arith,
      ap (λ (z : List Chunk). length z) is,
      length-append (get_or parts k []) (get_or parts (suc k) []),
      some_at parts k have (omega (arith, lt)) (omega (arith, lt)),
    ) in
    subst (Each (λ (p : List Chunk). 0 < length p)) (sym (join_form parts k joined lt))
    (each_append (λ (p : List Chunk). 0 < length p) (take k parts) (joined ∷ drop (suc (suc k)) parts)
    (each_take (λ (p : List Chunk). 0 < length p) k parts all) (some, each_drop (λ (p : List Chunk). 0 < length p) (suc (suc k)) parts all))

-- a part that was read and keeps its chunks
pub kept_parts : {X : Type 0} (f : X → List Chunk) (xs : List X) (k : ℕ) (p q : X) → k < length xs → p ≡ get_or xs k p → f q ≡ f p
    → map f (set xs k q) ≡ map f xs
kept_parts f xs k p q lt is same = same_parts f xs k q lt (same ∙ part_is f xs k p lt is)

-- a part that was split, between the others
split_parts : {X : Type 0} (f : X → List Chunk) (xs : List X) (k : ℕ) (q u : X)
    → map f (insert (set xs k q) (k + 1) u) ≡ insert (set (map f xs) k (f q)) (k + 1) (f u)
split_parts f xs k q u = map_insert f (set xs k q) (k + 1) u ∙ ap (λ (z : List (List Chunk)). insert z (k + 1) (f u)) (map-set f xs k q)

-- the chunks of parts of which two were joined
pub joined_parts : {X : Type 0} (f : X → List Chunk) (xs : List X) (k : ℕ) (q : X)
    → map f (remove (set xs k q) (k + 1)) ≡ remove (set (map f xs) k (f q)) (k + 1)
joined_parts f xs k q = map_remove f (set xs k q) (k + 1) ∙ ap (λ (z : List (List Chunk)). remove z (k + 1)) (map-set f xs k q)

-- there are as many starts as parts
pub starts_many : {X : Type 0} (f : X → List Chunk) (xs : List X) (starts : List ℕ) → starts ≡ starts_of 0 (map f xs)
    → length starts ≡ length xs
starts_many f xs starts are = ap (λ (z : List ℕ). length z) are ∙ (starts_long 0 (map f xs) ∙ length-map xs f)

-- the chunks before a part and in it are no more than all
starts_bound : (parts : List (List Chunk)) (starts : List ℕ) (k n : ℕ) → k < length parts → starts ≡ starts_of 0 parts
    → n ≡ get_or starts k 0 → n + length (get_or parts k []) ≤ length (all_of parts)
starts_bound parts starts k n lt are is =
    let count : n ≡ length (all_of (take k parts)) =
    omega (arith, is, ap (λ (z : List ℕ). get_or z k 0) are, starts_get 0 parts k 0 lt) in
    let whole : length (all_of parts)
    ≡ length (all_of (take k parts) ++ (get_or parts k [] ++ all_of (drop (suc k) parts))) =
    ap (λ (z : List Chunk). length z)
    (ap all_of (around parts k [] lt) ∙ all_around (take k parts) (get_or parts k []) (drop (suc k) parts)) in
    omega (
      arith,
      count,
      whole,
      length-append (all_of (take k parts)) (get_or parts k [] ++ all_of (drop (suc k) parts)),
      length-append (get_or parts k []) (all_of (drop (suc k) parts)),
    )

-- a part that was split
pub parted : {X : Type 0} (f : X → List Chunk) (p q u : X) (o : Option X) → o ≡ Some u
    → MatchOption o (f q ≡ f p) (λ (v : X). AreParted (f p) (f q) (f v)) → AreParted (f p) (f q) (f u)
parted {X = X} f p q u o is so = subst (λ (z : Option X). MatchOption z (f q ≡ f p) (λ (v : X). AreParted (f p) (f q) (f v))) is so

-- a part that wasn't parted keeps its chunks
pub not_parted : {X : Type 0} (f : X → List Chunk) (p q : X) (o : Option X) → o ≡ None
    → MatchOption o (f q ≡ f p) (λ (v : X). AreParted (f p) (f q) (f v)) → f q ≡ f p
not_parted {X = X} f p q o is so = subst (λ (z : Option X). MatchOption z (f q ≡ f p) (λ (v : X). AreParted (f p) (f q) (f v))) is so

-- where one part and all other parts have chunks, all parts have
pub others_and_one : (parts : List (List Chunk)) (k : ℕ) → k < length parts → 0 < length (get_or parts k []) → OthersHaveSome parts k
    → HaveSome parts
others_and_one parts k lt some others = λ several.
    let o = others several in
    let next : k + 1 ≡ suc k = omega arith in
    subst (Each (λ (p : List Chunk). 0 < length p)) (sym (around parts k [] lt))
    (each_append (λ (p : List Chunk). 0 < length p) (take k parts) (get_or parts k [] ∷ drop (suc k) parts) o.0
    (some, subst (λ (n : ℕ). Each (λ (p : List Chunk). 0 < length p) (drop n parts)) next o.1))

-- a part set in a list is read back
set_read : {X : Type 0} (f : X → List Chunk) (xs : List X) (k : ℕ) (q : X) → k < length xs → get_or (map f (set xs k q)) k [] ≡ f q
set_read f xs k q lt =
    ap (λ (z : List (List Chunk)). get_or z k []) (map-set f xs k q)
    ∙ get_or-set_same (map f xs) k (f q) [] (omega (arith, lt, length-map xs f))

-- the numbers of chunks that were read before a part and in it
pub start_read : {X : Type 0} (f : X → List Chunk) (xs : List X) (starts : List ℕ) (k n m : ℕ) (p : X) → k < length xs
    → k < length starts → n ≡ get_or starts k n → p ≡ get_or xs k p → m ≡ length (f p)
    → n + m ≡ get_or starts k 0 + length (get_or (map f xs) k [])
start_read f xs starts k n m p lt inside is read long =
    omega (arith, is, get_or_default starts k n 0 inside, long, ap (λ (z : List Chunk). length z) (part_is f xs k p lt read))

-- the number of chunks before the upper part of one that was split fits
pub split_few : {X : Type 0} (f : X → List Chunk) (xs : List X) (starts : List ℕ) (k most : ℕ) (p q u : X) → k < length xs
    → starts ≡ starts_of 0 (map f xs) → length (all_of (map f xs)) < most → p ≡ get_or xs k p → AreParted (f p) (f q) (f u)
    → get_or starts k 0 + length (get_or (map f (set xs k q)) k []) < most
split_few f xs starts k most p q u lt are few is so =
    omega (
      arith,
      few,
      starts_bound (map f xs) starts k (get_or starts k 0) (omega (arith, lt, length-map xs f)) are refl,
      ap (λ (z : List Chunk). length z) (set_read f xs k q lt),
      ap (λ (z : List Chunk). length z) (sym (part_is f xs k p lt is) ∙ so.was),
      length-append (f q) (f u),
    )

-- a row of which a part was split
pub split_row : {X : Type 0} (f : X → List Chunk) (xs news : List X) (starts now : List ℕ) (k : ℕ) (p q u : X) → k < length xs
    → starts ≡ starts_of 0 (map f xs) → HaveSome (map f xs) → p ≡ get_or xs k p → AreParted (f p) (f q) (f u)
    → news ≡ insert (set xs k q) (k + 1) u
    → now ≡ insert starts (k + 1) (get_or starts k 0 + length (get_or (map f (set xs k q)) k []))
    → (all_of (map f news) ≡ all_of (map f xs)) × (now ≡ starts_of 0 (map f news)) × HaveSome (map f news)
split_row f xs news starts now k p q u lt are have is so news_are now_is =
    let parts = map f xs in
    let inside : k < length parts = omega (arith, lt, length-map xs f) in
    let here : get_or parts k [] ≡ f q ++ f u = sym (part_is f xs k p lt is) ∙ so.was in
    let form : map f news ≡ insert (set parts k (f q)) (k + 1) (f u) = ap (map f) news_are ∙ split_parts f xs k q u in
    let many = ap (λ (z : List Chunk). insert starts (k + 1) (get_or starts k 0 + length z)) (set_read f xs k q lt) in (
      ap all_of form ∙ split_all parts k (f q) (f u) inside here,
      now_is ∙ (many ∙ (split_starts_are parts starts k (get_or starts k 0) (f q) (f u) inside here are refl ∙ ap (starts_of 0) (sym form))),
      subst HaveSome (sym form) (split_have parts k (f q) (f u) inside have so.lower_some so.upper_some),
    )
