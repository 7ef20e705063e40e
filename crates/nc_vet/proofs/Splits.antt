-- Lists that are parted at an element.
use Rattle.std.proofs.Common.{◌≡◌, List, [], ◌∷◌, ◌++◌, refl, inl, inr, ◌⊎◌}

-- an empty list has no element
pub split_none : {A : Type 0} (before after : List A) (q : A) → [] ≡ before ++ q ∷ after → ⊥
split_none [] after q e = cc
split_none (b ∷ before) after q e = cc

-- an element of a list with one more at its end is that one, or stands in the list
pub split_push : {A : Type 0} (xs before after : List A) (y q : A) → xs ++ y ∷ [] ≡ before ++ q ∷ after → ((before ≡ xs) × (y ≡ q))
    ⊎ ((rest : List A) × (xs ≡ before ++ q ∷ rest))
split_push [] [] after y q e = inl (refl, cc)
split_push [] (b ∷ []) after y q e = absurd cc
split_push [] (b ∷ c ∷ before) after y q e = absurd cc
split_push (x ∷ xs) [] after y q e = inr (xs, (let h : x ≡ q = cc in rw h refl))
split_push {A} (x ∷ xs) (b ∷ before) after y q e =
    let h : x ≡ b = cc in
    let t : xs ++ y ∷ [] ≡ before ++ q ∷ after = cc in
    elim (split_push xs before after y q t) [
      | inl w ↦ inl (rw (h, w.0) refl, w.1)
      | inr w ↦ inr (w.0, rw (h, w.1) refl)
    ]

-- the last of a list with one more at its end
pub split_last : {A : Type 0} (xs before : List A) (y q : A) → xs ++ y ∷ [] ≡ before ++ q ∷ [] → (xs ≡ before) × (y ≡ q)
split_last [] [] y q e = (refl, cc)
split_last [] (b ∷ []) y q e = absurd cc
split_last [] (b ∷ c ∷ before) y q e = absurd cc
split_last (x ∷ []) [] y q e = absurd cc
split_last (x ∷ z ∷ xs) [] y q e = absurd cc
split_last {A} (x ∷ xs) (b ∷ before) y q e =
    let h : x ≡ b = cc in
    let t : xs ++ y ∷ [] ≡ before ++ q ∷ [] = cc in
    let w = split_last xs before y q t in
    (rw (h, w.0) refl, w.1)

-- of two elements of a list, one is before the other, or they stand at one place
pub split_two : {A : Type 0} (before after others rest : List A) (p q : A) → before ++ p ∷ after ≡ others ++ q ∷ rest
    → (before ≡ others) ⊎ (((more : List A) × (others ≡ before ++ p ∷ more)) ⊎ ((more : List A) × (before ≡ others ++ q ∷ more)))
split_two [] after [] rest p q e = inl refl
split_two [] after (y ∷ others) rest p q e = inr (inl (others, (let h : p ≡ y = cc in rw h refl)))
split_two (x ∷ before) after [] rest p q e = inr (inr (before, (let h : x ≡ q = cc in rw h refl)))
split_two {A} (x ∷ before) after (y ∷ others) rest p q e =
    let h : x ≡ y = cc in
    let t : before ++ p ∷ after ≡ others ++ q ∷ rest = cc in
    elim (split_two before after others rest p q t) [
      | inl w ↦ inl (rw (h, w) refl)
      | inr (inl w) ↦ inr (inl (w.0, rw (h, w.1) refl))
      | inr (inr w) ↦ inr (inr (w.0, rw (h, w.1) refl))
    ]
