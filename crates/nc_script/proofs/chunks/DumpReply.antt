-- The words of a dump, one chunk more at a time.
use Rattle.std.proofs.Common.{◌≡◌, ℕ, zero, suc, ◌+◌, ◌<◌, ◌≤◌, length, List, [], ◌∷◌, ◌++◌, take, map, Some, sym, ap, ◌∙◌, append_assoc, append-nil, arith, rules}
use Rattle.std.specs.List.{flat_map, slice_get}
use Rattle.std.specs.Option.{IsSome}
use Rattle.std.proofs.lemmas.Grind.{flat_map-append}
use Rattle.std.proofs.lemmas.List.{map-append, take_more, take_all}
use Rattle.std.proofs.lemmas.Option.{get_or_from_slice_get, slice_get_within}

-- there is an element at each index below the length
pub element_there : {X : Type 0} (xs : List X) (i : ℕ) → i < length xs → IsSome (slice_get xs i)
element_there [] i l = absurd (omega (arith, l))
element_there (x ∷ xs) zero l = search rules
element_there (x ∷ xs) (suc i) l = element_there xs i (omega (arith, l))

-- the words of the next element comes after those of the elements before
pub dump_more : {X Y : Type 0} (shown : X → Y) (words : Y → List ℕ) (xs : List X) (i : ℕ) (x : X) (start now new : List ℕ)
    → slice_get xs i ≡ Some x
    → now ≡ start ++ flat_map words (map shown (take i xs)) → new ≡ now ++ words (shown x)
    → new ≡ start ++ flat_map words (map shown (take (i + 1) xs))
dump_more shown words xs i x start now new is e f =
    let front = map shown (take i xs) in
    let longer = take_more xs i x (slice_get_within xs i x is) ∙ ap (λ y. take i xs ++ y ∷ []) (get_or_from_slice_get xs i x x is) in
    let shown_longer = ap (map shown) longer ∙ map-append shown (take i xs) (x ∷ []) in
    f ∙ ap (λ (ys : List ℕ). ys ++ words (shown x)) e
    ∙ append_assoc start (flat_map words front) (words (shown x))
    ∙ ap (λ (ys : List ℕ). start ++ (flat_map words front ++ ys)) (sym (append-nil (words (shown x))))
    ∙ ap (λ (ys : List ℕ). start ++ ys) (sym (ap (flat_map words) shown_longer ∙ flat_map-append words front (shown x ∷ [])))

-- after the last element the words of all are there
pub dump_whole : {X Y : Type 0} (shown : X → Y) (words : Y → List ℕ) (xs : List X) (i : ℕ) (old head start now : List ℕ) → length xs ≤ i
    → start ≡ old ++ head → now ≡ start ++ flat_map words (map shown (take i xs)) → now ≡ old ++ (head ++ flat_map words (map shown xs))
dump_whole shown words xs i old head start now past e f =
    let all = flat_map words (map shown xs) in
    f ∙ ap (λ ys. start ++ flat_map words (map shown ys)) (take_all i xs past) ∙ ap (λ (z : List ℕ). z ++ all) e ∙ append_assoc old head all
