-- Numbers of a list from an index on, gone over one by one.
use Rattle.std.proofs.Common.{◌≡◌, ℕ, ◌+◌, ◌-◌, ◌<◌, ◌≤◌, List, [], ◌∷◌, ◌++◌, length, get_or, set, take, drop, map, sym, ap, ◌∙◌, arith, append_assoc, subst}
use Rattle.nc_base.specs.Each.{Each}
use Rattle.nc_base.proofs.Offered.{each_get}
use Rattle.std.proofs.lemmas.List.{take_more, map-append, length-drop, get_or-drop, drop-drop, length-set, drop-set-lt, take_more_set}

-- numbers of a list mapped up to the next index are those up to this one, and the one here
pub mapped_tail : (f : ℕ → ℕ) (xs : List ℕ) (m i d : ℕ) → m ≤ i → i < length xs
    → map f (take (i + 1 - m) (drop m xs)) ≡ map f (take (i - m) (drop m xs)) ++ f (get_or xs i d) ∷ []
mapped_tail f xs m i d le lt =
    let n : i + 1 - m ≡ i - m + 1 = omega (arith, le) in
    let there : m + (i - m) ≡ i = omega (arith, le) in
    let at : get_or (drop m xs) (i - m) d ≡ get_or xs i d = get_or-drop m xs (i - m) d ∙ ap (λ (k : ℕ). get_or xs k d) there in
    ap (λ (k : ℕ). map f (take k (drop m xs))) n
    ∙ (ap (map f) (take_more (drop m xs) (i - m) d (omega (arith, le, lt, length-drop m xs)))
    ∙ (map-append f (take (i - m) (drop m xs)) (get_or (drop m xs) (i - m) d ∷ [])
    ∙ ap (λ (y : ℕ). map f (take (i - m) (drop m xs)) ++ f y ∷ []) at))

-- a list mapped from an index on, up to the next one, is mapped up to this one and here
pub mapped_more : (f : ℕ → ℕ) (xs : List ℕ) (m i d : ℕ) → m ≤ i → i < length xs
    → take m xs ++ map f (take (i + 1 - m) (drop m xs)) ≡ (take m xs ++ map f (take (i - m) (drop m xs))) ++ f (get_or xs i d) ∷ []
mapped_more f xs m i d le lt =
    ap (λ (z : List ℕ). take m xs ++ z) (mapped_tail f xs m i d le lt)
    ∙ sym (append_assoc (take m xs) (map f (take (i - m) (drop m xs))) (f (get_or xs i d) ∷ []))

-- lists that are the same from an index on are the same from the next one on
pub rest_more : {X : Type 0} (xs ys : List X) (i : ℕ) → drop i xs ≡ drop i ys → drop (i + 1) xs ≡ drop (i + 1) ys
rest_more xs ys i same = sym (drop-drop 1 i xs) ∙ (ap (drop 1) same ∙ drop-drop 1 i ys)

-- lists that are the same from an index on have the same element there
pub here_same : {X : Type 0} (xs ys : List X) (i : ℕ) (d : X) → drop i xs ≡ drop i ys → get_or xs i d ≡ get_or ys i d
here_same xs ys i d same =
    let e : i + 0 ≡ i = omega arith in
    ap (λ (k : ℕ). get_or xs k d) (sym e)
    ∙ (sym (get_or-drop i xs 0 d) ∙ (ap (λ z. get_or z 0 d) same ∙ (get_or-drop i ys 0 d ∙ ap (λ (k : ℕ). get_or ys k d) e)))

-- the numbers of a list from an index on, mapped one by one as far as `i`
pub record IsMappedUpTo (f : ℕ → ℕ) (first i : ℕ) (old now : List ℕ) : Type 0 where
  pub from : first ≤ i
  pub long : length now ≡ length old
  pub rest : drop i now ≡ drop i old
  pub done : take i now ≡ take first old ++ map f (take (i - first) (drop first old))

-- numbers that are mapped up to an index are mapped up to the next one once the one here is
pub mapped_here : (f : ℕ → ℕ) (first i : ℕ) (old now : List ℕ) → IsMappedUpTo f first i old now → i < length now
    → IsMappedUpTo f first (i + 1) old (set now i (f (get_or now i 0)))
mapped_here f first i old now so within =
    let y = f (get_or now i 0) in
    let inside : i < length old = omega (arith, within, so.long) in
    record {
      from = omega (arith, so.from);
      long = length-set now i y ∙ so.long;
      rest = drop-set-lt (i + 1) now i y (omega arith) ∙ rest_more now old i so.rest;
      done = take_more_set now i y within
          ∙ (ap (λ (z : List ℕ). z ++ y ∷ []) so.done
          ∙ (ap (λ (n : ℕ). (take first old ++ map f (take (i - first) (drop first old))) ++ f n ∷ []) (here_same now old i 0 so.rest)
          ∙ sym (mapped_more f old first i 0 so.from inside)));
    }

-- what holds of each number from an index on holds of one of them
pub each_from_index : (P : ℕ → Type 0) (xs : List ℕ) (m i d : ℕ) → m ≤ i → i < length xs → Each P (drop m xs) → P (get_or xs i d)
each_from_index P xs m i d le lt all =
    let there : m + (i - m) ≡ i = omega (arith, le) in
    subst (λ (n : ℕ). P n) (get_or-drop m xs (i - m) d ∙ ap (λ (k : ℕ). get_or xs k d) there)
    (each_get P (drop m xs) (i - m) d (omega (arith, le, lt, length-drop m xs)) all)
