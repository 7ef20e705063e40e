-- A list of views after one of them is written, or one more is added.
use Rattle.std.proofs.Common.{◌≡◌, ◌≢◌, ℕ, zero, suc, ◌⊎◌, List, [], ◌∷◌, ◌++◌, length, set, sym, refl, ap, ◌∙◌, subst, ⊎_elim, inl, inr}
use mathlib.Core.Logic.{dite}
use mathlib.Core.Option.{some, some-injective, some-ne-none}
use native.Mathlib.Decide.{ℕ_discrete}
use lib.ListN.{get_elem?}
use Rattle.atomic_table.proofs.Lists.{at_set, set_else, at_longer, at_last}
use Rattle.nc_gens.specs.declared.view.View.{View}
use Rattle.nc_gens.specs.Rule.{StandsAt}

-- what holds of each view at its place still does after one is written
pub views_stay : (K : ℕ → View → Type 0) (vs : List View) (id : ℕ) (w : View) → K id w
    → ((j : ℕ) (v : View) → j ≢ id → get_elem? vs j ≡ some v → K j v)
    → (j : ℕ) (v : View) → get_elem? (set vs id w) j ≡ some v → K j v
views_stay K vs id w mine others j v e =
    ⊎_elim (λ (t : (j ≡ id) × (w ≡ v)). subst (λ (x : ℕ × View). K x.0 x.1) (λ i. (sym t.0 i, t.1 i)) mine)
    (λ (t : (j ≢ id) × (get_elem? vs j ≡ some v)). others j v t.0 t.1) (at_set vs id j w v e)

-- the last view of a longer list is the one that was added
at_end : (l : List View) (a b : View) (j : ℕ) → get_elem? (l ++ a ∷ []) j ≡ some b → (get_elem? l j ≡ some b) ⊎ ((j ≡ length l) × (a ≡ b))
at_end [] a b zero e = inr (refl, some-injective a b e)
at_end [] a b (suc j) e = absurd (some-ne-none b (sym e))
at_end (x ∷ xs) a b zero e = inl e
at_end (x ∷ xs) a b (suc j) e = ⊎_elim (λ t. inl t) (λ t. inr (ap suc t.0, t.1)) (at_end xs a b j e)

-- a view that is written stands at its place
pub set_there : (l : List View) (i : ℕ) (a b : View) → get_elem? l i ≡ some a → get_elem? (set l i b) i ≡ some b
set_there [] i a b e = absurd (some-ne-none a (sym e))
set_there (x ∷ xs) zero a b e = refl
set_there (x ∷ xs) (suc i) a b e = set_there xs i a b e

-- what stood at a place stands there after the view at `id` is written, if it passes to that view
pub still_there : (P : View → Type 0) (vs : List View) (id : ℕ) (v w : View) → get_elem? vs id ≡ some v → (P v → P w) → (k : ℕ)
    → StandsAt vs k P → StandsAt (set vs id w) k P
still_there P vs id v w at passes k t = dite (ℕ_discrete k id)
    (λ e. let same : t.0 ≡ v = some-injective t.0 v (sym t.1 ∙ (ap (get_elem? vs) e ∙ at)) in
    (w, ap (get_elem? (set vs id w)) e ∙ set_there vs id v w at, passes (subst P same t.2)))
    (λ ne. (t.0, set_else vs id k w ne ∙ t.1, t.2))

-- what holds of each view holds where the view at `id` is cut in two, the second part behind
pub split_views_stay : (K : ℕ → View → Type 0) (vs : List View) (id : ℕ) (a b : View) → K id a → K (length (set vs id a)) b
    → ((j : ℕ) (v : View) → j ≢ id → get_elem? vs j ≡ some v → K j v)
    → (j : ℕ) (v : View) → get_elem? (set vs id a ++ b ∷ []) j ≡ some v → K j v
split_views_stay K vs id a b mine added others j v e = ⊎_elim (λ there. views_stay K vs id a mine others j v there)
    (λ (t : (j ≡ length (set vs id a)) × (b ≡ v)). subst (λ (x : ℕ × View). K x.0 x.1) (λ i. (sym t.0 i, t.1 i)) added)
    (at_end (set vs id a) b v j e)

-- a view that was there still is, after one was split
pub split_still_there : (P : View → Type 0) (vs : List View) (id : ℕ) (v a b : View) → get_elem? vs id ≡ some v → (P v → P a) → (k : ℕ)
    → StandsAt vs k P → StandsAt (set vs id a ++ b ∷ []) k P
split_still_there P vs id v a b at passes k t = let s = still_there P vs id v a at passes k t in
    (s.0, at_longer (set vs id a) (b ∷ []) k s.0 s.1, s.2)

-- the view that is added stands last
pub added_there : (P : View → Type 0) (vs : List View) (b : View) → P b → StandsAt (vs ++ b ∷ []) (length vs) P
added_there P vs b p = (b, at_last vs b (length vs) refl, p)
