-- The rule of the words holds of a new table, and what the first passes are.
use Rattle.std.proofs.Common.{◌≡◌, ℕ, zero, suc, ◌+◌, true, false, List, [], ◌∷◌, ◌++◌, All, length, replicate, get_or, sym, refl, ap}
use Rattle.std.proofs.Common.{◌∙◌, subst, inr, rules, arith, zero-le}
use Rattle.std.proofs.lemmas.List.Elements.{All-append}
use mathlib.Core.Option.{some, some-injective, some-ne-none}
use lib.ListN.{get_elem?, length-replicate}
use Rattle.atomic_table.specs.Table.{opening}
use Rattle.atomic_table.specs.Seated.{TableId}
use Rattle.nc_gens.specs.declared.view.View.{View}
use Rattle.nc_gens.specs.Rule.{FitsView, Ruled}
use Rattle.nc_gens.specs.machinery.Views.{first_view}
use Rattle.nc_gens.specs.Seen.{PassState, first_pass, new_passes}

-- every element of n copies of z is z, also past the end
all_same : (n k z : ℕ) → get_or (replicate n z) k z ≡ z
all_same zero k z = refl
all_same (suc n) zero z = refl
all_same (suc n) (suc k) z = all_same n k z

-- every element of n zeros is 0
zeros : (n k : ℕ) → let z : ℕ = 0 in get_or (replicate n z) k z ≡ z
zeros n k = all_same n k 0

-- a list of one view has no other
pub alone : (P : ℕ → View → Type 0) (a : View) → P 0 a → (j : ℕ) (v : View) → get_elem? (a ∷ []) j ≡ some v → P j v
alone P a p zero v e = subst (P 0) (some-injective a v e) p
alone P a p (suc j) v e = absurd (some-ne-none v (sym e))

-- the table at the start
pub starts : (seats : ℕ) (words : List ℕ) → words ≡ replicate (seats + 1) 0 → Ruled (opening words [] (first_view seats))
starts seats words e = subst (λ (ws : List ℕ). Ruled (opening ws [] (first_view seats))) (sym e)
    (let ws : List ℕ = replicate (seats + 1) 0 in
    let wide : length (replicate seats 0) ≡ seats = length-replicate seats 0 in
    let long : length ws ≡ seats + 1 = length-replicate (seats + 1) 0 in record {
      owner = λ _. 0;
      in_range = let z : get_or ws 0 0 ≡ 0 = zeros (seats + 1) 0 in omega arith;
      has_keeper = (first_view seats, refl, refl);
      has_seat = λ k l. (first_view seats, refl, inr (refl, zero-le));
      each_view = alone (FitsView ws (λ _. 0)) (first_view seats) record {
        pass = λ h. let no : false ≡ true = h in cc;
        keeper = λ _. record {
          owns = refl;
          generation_is = zeros (seats + 1) 0;
          wide = long ∙ ap (λ (z : ℕ). z + 1) (sym wide);
          below = λ k l. let z : get_or (replicate seats 0) k 0 ≡ 0 = zeros seats k in omega arith;
          held_for_left = λ k l h. let z : get_or (replicate seats 0) k 0 ≡ 0 = zeros seats k in absurd (omega arith);
          not_given = λ k l m. (refl, zeros (seats + 1) (k + 1));
        };
      };
    })

-- a new table has one pass for each seat
pub length-new_passes : (table : TableId) (n : ℕ) → length (new_passes table n) ≡ n
length-new_passes table zero = refl
length-new_passes table (suc n) = length-snoc (new_passes table n) ∙ ap suc (length-new_passes table n)
  where
    length-snoc : (ps : List PassState) → length (ps ++ first_pass table n ∷ []) ≡ suc (length ps)
    length-snoc [] = refl
    length-snoc (p ∷ ps) = ap suc (length-snoc ps)

-- the first passes are all of the table
pub tables-new_passes : (table : TableId) (n : ℕ) → All (λ p. p.table ≡ table) (new_passes table n)
tables-new_passes table zero = search rules
tables-new_passes table (suc n) = All-append (λ p. p.table ≡ table) (new_passes table n) (first_pass table n ∷ [])
    (tables-new_passes table n) (search rules)
