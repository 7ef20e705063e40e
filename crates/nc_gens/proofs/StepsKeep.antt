-- Each kind of step keeps the words ruled, whatever trail the token recalls then.
use Rattle.std.proofs.Common.{◌≡◌, ◌≢◌, ℕ, ◌+◌, ◌%◌, ◌^◌, ◌<◌, ◌≤◌, true, false, List, length, get_or, set, sym, ap, ◌∙◌}
use Rattle.std.proofs.Common.{subst, ⊎_elim, arith, le_trans, length-set, get_or-set_other, get_or-set_same}
use mathlib.Core.Logic.{dite}
use mathlib.Core.Option.{some}
use native.Mathlib.Decide.{ℕ_discrete}
use lib.ListN.{get_elem?}
use lib.Seq.{set-get_or}
use Rattle.atomic_table.specs.Table.{State, keeps, stepped}
use Rattle.nc_gens.specs.declared.view.PassNumbers.{PassNumbers}
use Rattle.nc_gens.specs.declared.view.View.{View}
use Rattle.nc_gens.specs.declared.view.WordStep.{WordStep}
use Rattle.nc_gens.specs.Rule.{left_word, last_generation}
use Rattle.nc_gens.specs.Rule.{generation_raised, word_taken, FitsPass, FitsView, HasKeeper, HasSeat, Ruled}
use Rattle.nc_gens.specs.machinery.Steps.{Known}
use Rattle.nc_gens.proofs.ChangedViews.{views_stay, still_there}

-- the table as the rule sees it
abbrev pub Words : Type 0
Words = State (Unit {0}) View

-- a load changes the view alone
loaded : (s : Words) (r : Ruled s) (i id : ℕ) (me : Known) (w : View) → get_elem? s.views id ≡ some me.0 → (HasKeeper me.0 → HasKeeper w)
    → ((k : ℕ) → HasSeat k me.0 → HasSeat k w)
    → FitsView s.words r.owner id w → Ruled (stepped s i (get_or s.words i 0) id me.1 w keeps)
loaded s r i id me w at keeper seat fits =
    subst (λ (ws : List ℕ). Ruled record { words = ws; homes = s.homes; views = set s.views id w }) (sym (set-get_or s.words i 0)) record {
      owner = r.owner;
      in_range = r.in_range;
      has_keeper = still_there HasKeeper s.views id me.0 w at keeper (r.owner 0) r.has_keeper;
      has_seat = λ k l. still_there (HasSeat k) s.views id me.0 w at (seat k) (r.owner (k + 1)) (r.has_seat k l);
      each_view = views_stay (FitsView s.words r.owner) s.views id w fits (λ j v _ e. r.each_view j v e);
    }

-- the numbers of a pass still fit where its word stays and the generation doesn't fall
pass_fits : (old new : List ℕ) (owner : ℕ → ℕ) (at seat : ℕ) (p : PassNumbers) → length new ≡ length old
    → get_or new (seat + 1) 0 ≡ get_or old (seat + 1) 0 → get_or old 0 0 ≤ get_or new 0 0
    → FitsPass old owner at seat p → FitsPass new owner at seat p
pass_fits old new owner at seat p long same rises f =
    record {
      inside = let h = f.inside in omega arith;
      owns = f.owns;
      own_word = same ∙ f.own_word;
      published = f.published;
      saw = f.saw;
      current = le_trans f.current rises;
    }

-- A pass loads the generation and sees it. The rule stays if its word does, and its `since` doesn't fall and is at most the generation.
pub sees : (s : Words) (r : Ruled s) (id : ℕ) (me : Known) (p : PassNumbers) (known : List WordStep) → get_elem? s.views id ≡ some me.0
    → me.0.is_pass ≡ true → p.word ≡ me.0.pass.word → me.0.pass.since ≤ p.since → p.since ≤ p.seen → p.seen ≡ get_or s.words 0 0
    → Ruled (stepped s 0 (get_or s.words 0 0) id me.1 (record me.0 { pass = p; pass_trail = known }) keeps)
sees s r id me p known at is same rises saw seen =
    let f = r.each_view id me.0 at in
    let old = f.pass is in
    loaded s r 0 id me (record me.0 { pass = p; pass_trail = known }) at (λ h. h) (λ k h. h) record {
      pass = λ _. record {
        inside = old.inside;
        owns = old.owns;
        own_word = old.own_word ∙ sym same;
        published = λ ne. let below = old.published (λ e. ne (same ∙ e)) in omega arith;
        saw = saw;
        current = omega arith;
      };
      keeper = f.keeper;
    }

-- a pass stores x in its own word
pub stores : (s : Words) (r : Ruled s) (id i x : ℕ) (me : Known) (known : List WordStep) → get_elem? s.views id ≡ some me.0
    → me.0.is_pass ≡ true → me.0.is_keeper ≡ false → me.0.seat + 1 ≡ i
    → me.0.pass.word ≤ x → (x ≢ left_word → x ≤ me.0.pass.since) → me.0.pass.word ≢ left_word
    → Ruled (stepped s i x id me.1 (record me.0 { pass = record me.0.pass { word = x }; pass_trail = known }) keeps)
stores s r id i x me known at is apart here above below unheld =
    let f = r.each_view id me.0 at in
    let p = f.pass is in
    let w : View = record me.0 { pass = record me.0.pass { word = x }; pass_trail = known } in
    let ws : List ℕ = set s.words i x in
    let inside : i < length s.words = let h = p.inside in omega arith in
    let first : get_or ws 0 0 ≡ get_or s.words 0 0 = get_or-set_other s.words i 0 x 0 (λ e. omega arith) in
    let at_i : get_or ws i 0 ≡ x = get_or-set_same s.words i x 0 inside in
    let was : get_or s.words i 0 ≡ me.0.pass.word = ap (λ (k : ℕ). get_or s.words k 0) (sym here) ∙ p.own_word in
    let mine : r.owner i ≡ id = ap r.owner (sym here) ∙ p.owns in
    let long : length ws ≡ length s.words = length-set s.words i x in record {
      owner = r.owner;
      in_range = let h = r.in_range in omega arith;
      has_keeper = still_there HasKeeper s.views id me.0 w at (λ h. h) (r.owner 0) r.has_keeper;
      has_seat = λ k l. still_there (HasSeat k) s.views id me.0 w at (λ h. h) (r.owner (k + 1)) (r.has_seat k (omega arith));
      each_view = views_stay (FitsView ws r.owner) s.views id w
          record {
            pass = λ _. record {
              inside = let h = p.inside in omega arith;
              owns = p.owns;
              own_word = ap (λ (z : ℕ). get_or ws z 0) here ∙ at_i;
              published = below;
              saw = p.saw;
              current = let h = p.current in omega arith;
            };
            keeper = λ k. let no : true ≡ false = sym k ∙ apart in cc;
          }
          (λ j v other there. let g = r.each_view j v there in record {
            pass = λ h. let q = g.pass h in
                pass_fits s.words ws r.owner j v.seat v.pass long
                (get_or-set_other s.words i (v.seat + 1) x 0 (λ e. other (sym q.owns ∙ (ap r.owner e ∙ mine)))) (omega arith) q;
            keeper = λ h. let q = g.keeper h in record {
              owns = q.owns;
              generation_is = first ∙ q.generation_is;
              wide = long ∙ q.wide;
              below = λ k l. dite (ℕ_discrete (k + 1) i)
                  (λ e. let b = q.below k l in
                  let v' : get_or ws (k + 1) 0 ≡ x = ap (λ (z : ℕ). get_or ws z 0) e ∙ at_i in
                  let u : get_or s.words (k + 1) 0 ≡ me.0.pass.word = ap (λ (z : ℕ). get_or s.words z 0) e ∙ was in omega arith)
                  (λ ne. let b = q.below k l in let v' : get_or ws (k + 1) 0 ≡ get_or s.words (k + 1) 0 =
                  get_or-set_other s.words i (k + 1) x 0 ne in omega arith);
              held_for_left = λ k l e'. dite (ℕ_discrete (k + 1) i)
                  (λ e. absurd (unheld (sym was ∙ (ap (λ (z : ℕ). get_or s.words z 0) (sym e) ∙ q.held_for_left k l e'))))
                  (λ ne. get_or-set_other s.words i (k + 1) x 0 ne ∙ q.held_for_left k l e');
              not_given = λ k l m. let b = q.not_given k l m in
                  (b.0, get_or-set_other s.words i (k + 1) x 0 (λ e. other (sym b.0 ∙ (ap r.owner e ∙ mine))) ∙ b.1);
            };
          });
    }

-- the keeper adds one to the generation
pub raises : (s : Words) (r : Ruled s) (id : ℕ) (me : Known) (known : List WordStep) → get_elem? s.views id ≡ some me.0
    → me.0.is_keeper ≡ true → me.0.keeper.generation < last_generation
    → Ruled (stepped s 0 ((get_or s.words 0 0 + 1) % 2 ^ 64) id me.1
    (record me.0 { keeper = generation_raised me.0.keeper; keeper_trail = known }) keeps)
raises s r id me known at is room =
    let n : ℕ = get_or s.words 0 0 in
    let f = r.each_view id me.0 at in
    let q = f.keeper is in
    let now : n ≡ me.0.keeper.generation = q.generation_is in
    let x : ℕ = (n + 1) % 2 ^ 64 in
    let up : x ≡ n + 1 = omega arith in
    let w : View = record me.0 { keeper = generation_raised me.0.keeper; keeper_trail = known } in
    let ws : List ℕ = set s.words 0 x in
    let inside : 0 < length s.words = let h = q.wide in omega arith in
    let first : get_or ws 0 0 ≡ n + 1 = get_or-set_same s.words 0 x 0 inside ∙ up in
    let long : length ws ≡ length s.words = length-set s.words 0 x in
    let else : (k : ℕ) → get_or ws (k + 1) 0 ≡ get_or s.words (k + 1) 0 = λ k. get_or-set_other s.words 0 (k + 1) x 0 (λ e. omega arith) in
    let pass : (j i : ℕ) (p : PassNumbers) → FitsPass s.words r.owner j i p → FitsPass ws r.owner j i p =
    λ j i p. pass_fits s.words ws r.owner j i p long (else i) (omega arith) in record {
      owner = r.owner;
      in_range = omega arith;
      has_keeper = still_there HasKeeper s.views id me.0 w at (λ h. h) (r.owner 0) r.has_keeper;
      has_seat = λ k l. still_there (HasSeat k) s.views id me.0 w at (λ h. h) (r.owner (k + 1)) (r.has_seat k (omega arith));
      each_view = views_stay (FitsView ws r.owner) s.views id w
          record {
            pass = λ h. pass id me.0.seat me.0.pass (f.pass h);
            keeper = λ _. record {
              owns = q.owns;
              generation_is = first ∙ ap (λ (z : ℕ). z + 1) now;
              wide = long ∙ q.wide;
              below = λ k l. let b = q.below k l in let v = else k in omega arith;
              held_for_left = λ k l e. else k ∙ q.held_for_left k l e;
              not_given = λ k l m. let b = q.not_given k l m in (b.0, else k ∙ b.1);
            };
          }
          (λ j v other there. let g = r.each_view j v there in record {
            pass = λ h. pass j v.seat v.pass (g.pass h);
            keeper = λ h. absurd (other (sym (g.keeper h).owns ∙ q.owns));
          });
    }

-- the word of a seat that hasn't left is at most the generation
pub word_in_range : (s : Words) (r : Ruled s) (i : ℕ) → i + 1 < length s.words → get_or s.words (i + 1) 0 ≢ left_word
    → get_or s.words (i + 1) 0 ≤ get_or s.words 0 0
word_in_range s r i inside ne =
    let has = r.has_seat i inside in
    let f = r.each_view (r.owner (i + 1)) has.0 has.1 in
    ⊎_elim
    (λ (t : (has.0.is_pass ≡ true) × (has.0.seat ≡ i)). let p = f.pass t.0 in
    let is : get_or s.words (i + 1) 0 ≡ has.0.pass.word = ap (λ (z : ℕ). get_or s.words (z + 1) 0) (sym t.1) ∙ p.own_word in
    let a = p.published (λ z. ne (is ∙ z)) in let b = p.saw in let d = p.current in omega arith)
    (λ (t : (has.0.is_keeper ≡ true) × (has.0.given ≤ i)). let q = f.keeper t.0 in let z =
    (q.not_given i t.1 (let w = q.wide in omega arith)).1 in omega arith) has.2

-- the keeper loads the word of the seat i
pub looks : (s : Words) (r : Ruled s) (id i : ℕ) (me : Known) (known : List WordStep) → get_elem? s.views id ≡ some me.0
    → me.0.is_keeper ≡ true → i < length me.0.keeper.bounds
    → Ruled (stepped s (i + 1) (get_or s.words (i + 1) 0) id me.1
    (record me.0 { keeper = word_taken i (get_or s.words (i + 1) 0) me.0.keeper; keeper_trail = known }) keeps)
looks s r id i me known at is room =
    let n : ℕ = get_or s.words (i + 1) 0 in
    let f = r.each_view id me.0 at in
    let q = f.keeper is in
    let bs : List ℕ = set me.0.keeper.bounds i n in
    let w : View = record me.0 { keeper = word_taken i n me.0.keeper; keeper_trail = known } in
    let long : length bs ≡ length me.0.keeper.bounds = length-set me.0.keeper.bounds i n in
    loaded s r (i + 1) id me w at (λ h. h) (λ k h. h) record {
      pass = f.pass;
      keeper = λ _. record {
        owns = q.owns;
        generation_is = q.generation_is;
        wide = q.wide ∙ ap (λ (z : ℕ). z + 1) (sym long);
        below = λ k l. dite (ℕ_discrete k i)
            (λ e. let a : get_or bs k 0 ≡ n = ap (λ (z : ℕ). get_or bs z 0) e ∙ get_or-set_same me.0.keeper.bounds i n 0 room in
            let b : get_or s.words (k + 1) 0 ≡ n = ap (λ (z : ℕ). get_or s.words (z + 1) 0) e in omega arith)
            (λ ne. let a = get_or-set_other me.0.keeper.bounds i k n 0 ne in let b = q.below k (omega arith) in omega arith);
        held_for_left = λ k l h. dite (ℕ_discrete k i)
            (λ e. let a : get_or bs k 0 ≡ n = ap (λ (z : ℕ). get_or bs z 0) e ∙ get_or-set_same me.0.keeper.bounds i n 0 room in
            let b : get_or s.words (k + 1) 0 ≡ n = ap (λ (z : ℕ). get_or s.words (z + 1) 0) e in b ∙ (sym a ∙ h))
            (λ ne. let a = get_or-set_other me.0.keeper.bounds i k n 0 ne in q.held_for_left k (omega arith) (sym a ∙ h));
        not_given = λ k l m. q.not_given k l (omega arith);
      };
    }
