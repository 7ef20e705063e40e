-- Lists made of other lists, an item at a time.
use Rattle.std.proofs.Common.{◌≡◌, suc, List, [], ◌∷◌, ◌++◌, All, length, map, get_or, ap, arith, sym, subst, ◌∙◌, append_assoc}
use Rattle.std.proofs.lemmas.List.{map-append}

-- a list that is made item by item, with one more item
pub made_more : {X Y Z : Type 0} (f : X → Z) (g : Y → Z) (whole : List Z) (made new : List Y) (y : Y) (before after : List X) (x : X)
    → whole ≡ map g made ++ map f before → before ≡ x ∷ after → new ≡ made ++ y ∷ [] → g y ≡ f x → whole ≡ map g new ++ map f after
made_more f g whole made new y before after x is next pushed same =
    is
    ∙ (ap (λ z. map g made ++ map f z) next
    ∙ (ap (λ z. map g made ++ (z ∷ map f after)) (sym same)
    ∙ (sym (append_assoc (map g made) (g y ∷ []) (map f after))
    ∙ (ap (λ z. z ++ map f after) (sym (map-append g made (y ∷ [])))
    ∙ ap (λ z. map g z ++ map f after) (sym pushed)))))

-- what holds of all items holds of those after the first
pub all_after : {X : Type 0} (P : X → Type 0) (before after : List X) (x : X) → All P before → before ≡ x ∷ after → All P after
all_after P before after x all next = λ k d lt.
    subst (λ z. P (get_or z (suc k) d)) next (all (suc k) d (omega (arith, lt, ap (λ z. length z) next)))

-- what holds of all items holds of the first
pub all_first : {X : Type 0} (P : X → Type 0) (before after : List X) (x : X) → All P before → before ≡ x ∷ after → P x
all_first P before after x all next =
    subst (λ z. P (get_or z 0 x)) next (all 0 x (omega (arith, ap (λ z. length z) next)))
