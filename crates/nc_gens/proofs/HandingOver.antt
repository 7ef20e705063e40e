-- A pass goes from one view to another, and the rule of the words stays.
use Rattle.std.proofs.Common.{◌≡◌, ◌≢◌, ℕ, ◌+◌, ◌<◌, ◌≤◌, true, false, List, [], ◌∷◌, ◌++◌, length, set, sym, refl, slice_index, ap, ◌∙◌, subst, ⊎_elim}
use Rattle.std.proofs.Common.{inl, inr, arith, le_refl, zero-le}
use mathlib.Core.Logic.{dite}
use mathlib.Core.Option.{some}
use native.Mathlib.Decide.{ℕ_discrete}
use lib.ListN.{get_elem?}
use Rattle.atomic_table.specs.Table.{State, Splits, Joins}
use Rattle.atomic_table.proofs.Lists.{set_else}
use Rattle.nc_gens.specs.declared.view.PassNumbers.{PassNumbers}
use Rattle.nc_gens.specs.declared.view.KeeperNumbers.{KeeperNumbers}
use Rattle.nc_gens.specs.declared.view.View.{View}
use Rattle.nc_gens.specs.Rule.{FitsPass, FitsKeeper, FitsView, HasKeeper, HasSeat, StandsAt, Ruled}
use Rattle.nc_gens.specs.machinery.Views.{given_one_more, new_pass_view}
use Rattle.nc_gens.specs.machinery.Views.{without_pass, without_keeper, with_pass_of, spent_view}
use Rattle.nc_gens.proofs.ChangedViews.{views_stay, set_there, still_there, split_views_stay, split_still_there, added_there}

-- the first number where P holds, and the second where it doesn't
abbrev pick : {P : Type 0} → Dec P → ℕ → ℕ → ℕ
pick (yes _) a b = a
pick (no _) a b = b

-- the owners, once the word i goes to the view at this place
owned_by : (ℕ → ℕ) → ℕ → ℕ → ℕ → ℕ
owned_by owner i at k = pick (ℕ_discrete k i) at (owner k)

-- the word that is handed over goes to the view at a place
by_here : (owner : ℕ → ℕ) (i at k : ℕ) → k ≡ i → owned_by owner i at k ≡ at
unfolding owned_by
by_here owner i at k e = go (ℕ_discrete k i)
  where
    go : (d : Dec (k ≡ i)) → pick d at (owner k) ≡ at
    go (yes _) = refl
    go (no n) = absurd (n e)

-- every word but the one handed over stays where it was
by_else : (owner : ℕ → ℕ) (i at k : ℕ) → k ≢ i → owned_by owner i at k ≡ owner k
unfolding owned_by
by_else owner i at k other = go (ℕ_discrete k i)
  where
    go : (d : Dec (k ≡ i)) → pick d at (owner k) ≡ owner k
    go (yes e) = absurd (other e)
    go (no _) = refl

-- the numbers of a pass fit wherever its view is, if that owns the pass's word
moved_pass : (words : List ℕ) (owner owner' : ℕ → ℕ) (at at' seat : ℕ) (p : PassNumbers) → owner' (seat + 1) ≡ at'
    → FitsPass words owner at seat p → FitsPass words owner' at' seat p
moved_pass words owner owner' at at' seat p owns f =
    record { inside = f.inside; owns = owns; own_word = f.own_word; published = f.published; saw = f.saw; current = f.current }

-- the keeper's numbers fit wherever its view is, if that owns the generation and the words of seats not given out
moved_keeper : (words : List ℕ) (owner owner' : ℕ → ℕ) (at at' given given' : ℕ) (k : KeeperNumbers) → owner' 0 ≡ at'
    → ((i : ℕ) → given' ≤ i → i < length k.bounds → (owner' (i + 1) ≡ at') × (slice_index words (i + 1) ≡ 0))
    → FitsKeeper words owner at given k → FitsKeeper words owner' at' given' k
moved_keeper words owner owner' at at' given given' k owns not_given f =
    record {
      owns = owns;
      generation_is = f.generation_is;
      wide = f.wide;
      below = f.below;
      held_for_left = f.held_for_left;
      not_given = not_given;
    }

-- a view that doesn't own the word i still fits when another gets it
others_fit : (words : List ℕ) (owner : ℕ → ℕ) (i at j : ℕ) (v : View) → 0 < i → owner i ≢ j → FitsView words owner j v
    → FitsView words (owned_by owner i at) j v
others_fit words owner i at j v high other f =
    let stays : (k : ℕ) → owner k ≡ j → owned_by owner i at k ≡ j = λ k e. by_else owner i at k (λ same. other (ap owner (sym same) ∙ e))
    ∙ e in record {
      pass = λ h. let p = f.pass h in moved_pass words owner (owned_by owner i at) j j v.seat v.pass (stays (v.seat + 1) p.owns) p;
      keeper = λ h. let q = f.keeper h in
          moved_keeper words owner (owned_by owner i at) j j v.given v.given v.keeper (stays 0 q.owns) (λ k l m. let b =
          q.not_given k l m in (stays (k + 1) b.0, b.1)) q;
    }

-- each seat is still there, once the seat i went to the view at a place
seats_there : (vs : List View) (owner : ℕ → ℕ) (i at k : ℕ) → StandsAt vs at (HasSeat i)
    → (k ≢ i → StandsAt vs (owner (k + 1)) (HasSeat k)) → StandsAt vs (owned_by owner (i + 1) at (k + 1)) (HasSeat k)
seats_there vs owner i at k here others = dite (ℕ_discrete k i)
    (λ e. subst (λ (z : ℕ). StandsAt vs z (HasSeat k)) (sym (by_here owner (i + 1) at (k + 1) (ap (λ (z : ℕ). z + 1) e)))
    (subst (λ (z : ℕ). StandsAt vs at (HasSeat z)) (sym e) here))
    (λ ne. subst (λ (z : ℕ). StandsAt vs z (HasSeat k)) (sym (by_else owner (i + 1) at (k + 1) (λ z. ne (omega arith)))) (others ne))

-- the keeper is still there, once the seat i went to the view at a place
keeper_there : (vs : List View) (owner : ℕ → ℕ) (i at : ℕ) → StandsAt vs (owner 0) HasKeeper
    → StandsAt vs (owned_by owner (i + 1) at 0) HasKeeper
keeper_there vs owner i at = subst (λ (z : ℕ). StandsAt vs z HasKeeper) (sym (by_else owner (i + 1) at 0 (λ z. omega arith)))

-- A view is cut in two, and the second half gets a seat that the view owned. The rule stays if both halves fit.
seat_moved : (s : State (Unit {0}) View) (r : Ruled s) (id : ℕ) (v a b : View) (seat : ℕ) → get_elem? s.views id ≡ some v
    → r.owner (seat + 1) ≡ id → (HasKeeper v → HasKeeper a) → HasSeat seat b → ((k : ℕ) → k ≢ seat → HasSeat k v → HasSeat k a)
    → FitsView s.words (owned_by r.owner (seat + 1) (length (set s.views id a))) id a
    → FitsView s.words (owned_by r.owner (seat + 1) (length (set s.views id a))) (length (set s.views id a)) b
    → Ruled record { words = s.words; homes = s.homes; views = set s.views id a ++ b ∷ [] }
seat_moved s r id v a b seat at owns keeper here others left right =
    let new : ℕ = length (set s.views id a) in record {
      owner = owned_by r.owner (seat + 1) new;
      in_range = r.in_range;
      has_keeper = keeper_there _ r.owner seat new (split_still_there HasKeeper s.views id v a b at keeper (r.owner 0) r.has_keeper);
      has_seat = λ k l. seats_there _ r.owner seat new k (added_there (HasSeat seat) (set s.views id a) b here)
          (λ ne. split_still_there (HasSeat k) s.views id v a b at (others k ne) (r.owner (k + 1)) (r.has_seat k l));
      each_view = split_views_stay (FitsView s.words (owned_by r.owner (seat + 1) new)) s.views id a b left right
          (λ k x other there. others_fit s.words r.owner (seat + 1) new k x (omega arith) (λ z. other (sym z ∙ owns)) (r.each_view k x there));
    }

-- the pass of a view goes to a new token
pub passes_out : (id : ℕ) (v : View) → v.is_pass ≡ true → (v.is_keeper ≡ true → length v.keeper.bounds ≤ v.given)
    → Splits Ruled id v (without_pass v) (without_keeper v)
passes_out id v is all_given s r at =
    let f = r.each_view id v at in
    let p = f.pass is in
    let i : ℕ = v.seat + 1 in
    let new : ℕ = length (set s.views id (without_pass v)) in
    let owner : ℕ → ℕ = owned_by r.owner i new in
    seat_moved s r id v (without_pass v) (without_keeper v) v.seat at p.owns (λ h. h) (inl (is, refl))
    (λ k ne. ⊎_elim (λ t. absurd (ne (sym t.1))) (λ t. inr t))
    record {
      pass = λ h. let no : false ≡ true = h in cc;
      keeper = λ h. let q = f.keeper h in
          moved_keeper s.words r.owner owner id id v.given v.given v.keeper (by_else r.owner i new 0 (λ z. omega arith) ∙ q.owns)
          (λ k l m. let g = all_given h in absurd (omega arith)) q;
    }
    record {
      pass = λ _. moved_pass s.words r.owner owner id new v.seat v.pass (by_here r.owner i new i refl) p;
      keeper = λ h. let no : false ≡ true = h in cc;
    }

-- a new pass comes from the keeper
pub gives_pass : (id : ℕ) (v : View) → v.is_pass ≡ false → v.is_keeper ≡ true → v.given < length v.keeper.bounds
    → Splits Ruled id v (given_one_more v) (new_pass_view v)
gives_pass id v bare is room s r at =
    let q = (r.each_view id v at).keeper is in
    let i : ℕ = v.given + 1 in
    let own = q.not_given v.given (le_refl v.given) room in
    let new : ℕ = length (set s.views id (given_one_more v)) in
    let owner : ℕ → ℕ = owned_by r.owner i new in
    seat_moved s r id v (given_one_more v) (new_pass_view v) v.given at own.0 (λ h. h) (inl (refl, refl))
    (λ k ne. ⊎_elim (λ t. let no : false ≡ true = sym bare ∙ t.0 in cc) (λ t. inr (t.0, (let l' = t.1 in omega arith))))
    record {
      pass = λ h. let no : false ≡ true = sym bare ∙ h in cc;
      keeper = λ _. moved_keeper s.words r.owner owner id id v.given (v.given + 1) v.keeper
          (by_else r.owner i new 0 (λ z. omega arith) ∙ q.owns)
          (λ k l m. let c = q.not_given k (omega arith) m in (by_else r.owner i new (k + 1) (λ z. omega arith) ∙ c.0, c.1)) q;
    }
    record {
      pass = λ _. record {
        inside = let h = q.wide in omega arith;
        owns = by_here r.owner i new i refl;
        own_word = own.1;
        published = λ _. le_refl 0;
        saw = le_refl 0;
        current = zero-le;
      };
      keeper = λ h. let no : false ≡ true = h in cc;
    }

-- the pass of another view goes into this one, which has none
pub passes_in : (id : ℕ) (v : View) (other : ℕ) (w : View) → v.is_pass ≡ false → w.is_pass ≡ true → w.is_keeper ≡ false
    → Joins Ruled id v other w (with_pass_of v w) spent_view
passes_in id v other w bare is alone s r at apart there =
    let f = r.each_view id v at in
    let both : View = with_pass_of v w in
    let p = (r.each_view other w (sym (set_else s.views id other both apart) ∙ there)).pass is in
    let i : ℕ = w.seat + 1 in
    let vs : List View = set s.views id both in
    let owner : ℕ → ℕ = owned_by r.owner i id in record {
      owner = owner;
      in_range = r.in_range;
      has_keeper = keeper_there _ r.owner w.seat id
          (still_there HasKeeper vs other w spent_view there (λ h. let no : false ≡ true = sym alone ∙ h in cc) (r.owner 0)
          (still_there HasKeeper s.views id v both at (λ h. h) (r.owner 0) r.has_keeper));
      has_seat = λ k l. seats_there _ r.owner w.seat id k (
        both,
        set_else vs other id spent_view (λ z. apart (sym z))
            ∙ set_there s.views id v both at,
        inl (is, refl),
      )
          (λ ne. still_there (HasSeat k) vs other w spent_view there
          (⊎_elim (λ t. absurd (ne (sym t.1))) (λ t. let no : false ≡ true = sym alone ∙ t.0 in cc)) (r.owner (k + 1))
          (still_there (HasSeat k) s.views id v both at (⊎_elim (λ t. let no : false ≡ true = sym bare ∙ t.0 in cc) (λ t. inr t))
          (r.owner (k + 1)) (r.has_seat k l)));
      each_view = views_stay (FitsView s.words owner) vs other spent_view
          record { pass = λ h. let no : false ≡ true = h in cc; keeper = λ h. let no : false ≡ true = h in cc }
          (λ j x ne here. views_stay (λ (k : ℕ) (y : View). k ≢ other → FitsView s.words owner k y) s.views id both
          (λ _. record {
            pass = λ _. moved_pass s.words r.owner owner other id w.seat w.pass (by_here r.owner i id i refl) p;
            keeper = λ h. (others_fit s.words r.owner i id id v (omega arith) (λ z. apart (sym p.owns ∙ z)) f).keeper h;
          })
          (λ k y _ was not. others_fit s.words r.owner i id k y (omega arith) (λ z. not (sym z ∙ p.owns)) (r.each_view k y was)) j x here
          ne);
    }
