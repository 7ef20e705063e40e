-- Each kind of step keeps the rule: it is added to the trail, which every view goes on recalling.
use Rattle.std.proofs.Common.{◌≡◌, ◌≢◌, ℕ, ◌+◌, ◌-◌, ◌%◌, ◌^◌, ◌<◌, ◌≤◌, true, false, List, [], ◌∷◌, ◌++◌, length, get_or, sym, refl, ap, ◌∙◌}
use Rattle.std.proofs.Common.{subst, ⊎_elim, arith, le_refl, le_trans, length-set, eq-eqb, ne_eqb}
use mathlib.Core.Option.{none, some}
use lib.ListN.{get_elem?}
use Rattle.atomic_table.specs.Table.{step, keeps, stepped, Allows}
use Rattle.nc_gens.specs.declared.view.PassNumbers.{PassNumbers}
use Rattle.nc_gens.specs.declared.view.View.{View}
use Rattle.nc_gens.specs.declared.view.WordStep.{WordStep}
use Rattle.nc_gens.specs.declared.view.WordStep.TheVariants.{TookGeneration, SawGeneration, StoredSince, StoredLeft, AddedOne, TookWord}
use Rattle.nc_gens.specs.Rule.{left_word, last_generation, generation_taken, generation_seen, since_stored, left_stored}
use Rattle.nc_gens.specs.Rule.{generation_raised, word_taken, Ruled}
use Rattle.nc_gens.specs.Trail.{Adds, AllNumbers, is_by_pass, is_by_keeper, numbers_after, numbers_by, pass_in, IsRising}
use Rattle.nc_gens.specs.Record.{Recalls, RecallsPass, RecallsKeeper, Recorded}
use Rattle.nc_gens.specs.machinery.Steps.{Known, TakesGeneration, HasStepped, KeeperHasStepped}
use Rattle.nc_gens.specs.machinery.Steps.{SeesGeneration, StoresSince, StoresLeft, AddsOne, TakesWord}
use Rattle.nc_gens.proofs.ChangedViews.{views_stay}
use Rattle.nc_gens.proofs.StepsKeep.{Words, sees, stores, raises, looks, word_in_range}
use Rattle.nc_gens.proofs.Trails.{by_longer, as_many_by, this_pass, other_pass, other_keeper, as_at_first, none_since, since_other, adds_mine, still_none}
use Rattle.nc_gens.proofs.Rising.{LowersNone, lowers_none, rising_more}

-- the step is neither by the pass of the view nor by its keeper, nor by a pass that the keeper hasn't given out
record IsByOthers (v : View) (one : WordStep) : Type 0 where
  pub pass : v.is_pass ≡ true → is_by_pass v.seat one ≡ false
  pub keeper : v.is_keeper ≡ true → is_by_keeper one ≡ false
  pub not_given : v.is_keeper ≡ true → (i : ℕ) → v.given ≤ i → is_by_pass i one ≡ false

-- a pass recalls the trail when a step of others is added
pass_recalls : (seats : ℕ) (trail : List WordStep) (v : View) (one : WordStep) → is_by_pass v.seat one ≡ false
    → RecallsPass seats trail v → RecallsPass seats (trail ++ one ∷ []) v
pass_recalls seats trail v one other p = record {
  seats_are = p.seats_are;
  numbers = p.numbers ∙ sym (ap (λ (n : AllNumbers). pass_in n v.seat) (by_longer seats trail one)
      ∙ other_pass (numbers_by seats trail) v.seat one other);
  known = since_other (is_by_pass v.seat) v.pass_trail trail one other p.known;
}

-- so does the keeper
keeper_recalls : (seats : ℕ) (trail : List WordStep) (v : View) (one : WordStep) → is_by_keeper one ≡ false
    → ((i : ℕ) → v.given ≤ i → is_by_pass i one ≡ false) → RecallsKeeper seats trail v → RecallsKeeper seats (trail ++ one ∷ []) v
keeper_recalls seats trail v one other not_given k = record {
  seats_are = k.seats_are;
  numbers = k.numbers ∙ sym (ap (λ (n : AllNumbers). n.keeper) (by_longer seats trail one)
      ∙ other_keeper (numbers_by seats trail) one other);
  known = since_other is_by_keeper v.keeper_trail trail one other k.known;
  not_given = λ i l. still_none i trail one (k.not_given i l) (not_given i l);
}

-- a step that lowers no word is added by the view w, and no other view has a part in it
recorded : (s : Words) (r : Recorded s) (id i x : ℕ) (me : Known) (w : View) (one : WordStep)
    → Ruled (stepped s i x id me.1 w keeps) → LowersNone (numbers_by r.seats r.trail) one → Recalls r.seats (r.trail ++ one ∷ []) w
    → ((j : ℕ) (v : View) → j ≢ id → get_elem? s.views j ≡ some v → IsByOthers v one)
    → Recorded (stepped s i x id me.1 w keeps)
recorded s r id i x me w one ruled up mine others = record {
  ruled = ruled;
  seats = r.seats;
  wide = length-set s.words i x ∙ r.wide;
  trail = r.trail ++ one ∷ [];
  rising = rising_more r.seats r.trail one up r.rising;
  each_view = views_stay (λ _. Recalls r.seats (r.trail ++ one ∷ [])) s.views id w mine
      (λ j v ne e. let o = others j v ne e in let c = r.each_view j v e in record {
        pass = λ h. pass_recalls r.seats r.trail v one (o.pass h) (c.pass h);
        keeper = λ h. keeper_recalls r.seats r.trail v one (o.keeper h) (o.not_given h) (c.keeper h);
      });
}

-- the generation is the one that the trail leads to
generation_by : (s : Words) (r : Recorded s) → get_or s.words 0 0 ≡ (numbers_by r.seats r.trail).keeper.generation
generation_by s r =
    let has = r.ruled.has_keeper in
    let fits = (r.ruled.each_view (r.ruled.owner 0) has.0 has.1).keeper has.2 in
    let recalls = (r.each_view (r.ruled.owner 0) has.0 has.1).keeper has.2 in
    fits.generation_is ∙ ap (λ k. k.generation) recalls.numbers

-- the word of a seat is the one that the trail leads to
word_by : (s : Words) (r : Recorded s) (i : ℕ) → i + 1 < length s.words → get_or s.words (i + 1) 0 ≡ (pass_in (numbers_by r.seats r.trail) i).word
word_by s r i inside =
    let has = r.ruled.has_seat i inside in
    let fits = r.ruled.each_view (r.ruled.owner (i + 1)) has.0 has.1 in
    let recalls = r.each_view (r.ruled.owner (i + 1)) has.0 has.1 in
    ⊎_elim
    (λ (t : (has.0.is_pass ≡ true) × (has.0.seat ≡ i)). ap (λ (z : ℕ). get_or s.words (z + 1) 0) (sym t.1) ∙ ((fits.pass t.0).own_word
    ∙ (ap (λ (p : PassNumbers). p.word) (recalls.pass t.0).numbers ∙ ap (λ (z : ℕ). (pass_in (numbers_by r.seats r.trail) z).word) t.1)))
    (λ (t : (has.0.is_keeper ≡ true) × (has.0.given ≤ i)). let q = fits.keeper t.0 in
    (q.not_given i t.1 (let w = q.wide in omega arith)).1
    ∙ sym (ap (λ (p : PassNumbers). p.word) (as_at_first r.seats i r.trail ((recalls.keeper t.0).not_given i t.1)))) has.2

-- no other view has a part in a step of the pass of this one
by_other_passes : (s : Words) (r : Ruled s) (id : ℕ) (v : View) (one : WordStep) → get_elem? s.views id ≡ some v → v.is_pass ≡ true
    → is_by_keeper one ≡ false → ((k : ℕ) → v.seat ≢ k → is_by_pass k one ≡ false)
    → (j : ℕ) (u : View) → j ≢ id → get_elem? s.views j ≡ some u → IsByOthers u one
by_other_passes s r id v one at is apart only j u other there =
    let mine = (r.each_view id v at).pass is in
    let f = r.each_view j u there in record {
      pass = λ h. only u.seat (λ e. other (sym (f.pass h).owns ∙ (ap (λ (z : ℕ). r.owner (z + 1)) (sym e) ∙ mine.owns)));
      keeper = λ _. apart;
      not_given = λ h i l. let q = f.keeper h in only i (λ e. other (sym (q.not_given i l (let a = q.wide in let b =
          mine.inside in omega arith)).0 ∙ (ap (λ (z : ℕ). r.owner (z + 1)) (sym e) ∙ mine.owns)));
    }

-- the view of a pass after its own step, which leads to these numbers
recalls_own : (s : Words) (r : Recorded s) (id : ℕ) (v : View) (p : PassNumbers) (one : WordStep) → get_elem? s.views id ≡ some v
    → v.is_pass ≡ true → (v.is_keeper ≡ true → length v.keeper.bounds ≤ v.given) → is_by_keeper one ≡ false
    → ((k : ℕ) → v.seat ≢ k → is_by_pass k one ≡ false)
    → p ≡ pass_in (numbers_after (numbers_by r.seats r.trail) one) v.seat
    → Recalls r.seats (r.trail ++ one ∷ []) (record v { pass = p; pass_trail = r.trail ++ one ∷ [] })
recalls_own s r id v p one at is all_given apart only leads =
    let c = r.each_view id v at in
    let f = r.ruled.each_view id v at in record {
      pass = λ h. record {
        seats_are = (c.pass h).seats_are;
        numbers = leads ∙ sym (ap (λ (n : AllNumbers). pass_in n v.seat) (by_longer r.seats r.trail one));
        known = none_since (is_by_pass v.seat) (r.trail ++ one ∷ []);
      };
      keeper = λ h. let k = keeper_recalls r.seats r.trail v one apart (λ i l. only i (let a = all_given h in let b =
          (f.keeper h).wide in let d = (f.pass is).inside in λ e. absurd (omega arith))) (c.keeper h) in record {
            seats_are = k.seats_are;
            numbers = k.numbers;
            known = k.known;
            not_given = k.not_given;
          };
    }

-- what a pass tells of its step
has_stepped : (s : Words) (r : Recorded s) (id : ℕ) (v : View) (p : PassNumbers) (one : WordStep) → get_elem? s.views id ≡ some v
    → v.is_pass ≡ true → is_by_pass v.seat one ≡ true → p ≡ pass_in (numbers_after (numbers_by r.seats r.trail) one) v.seat
    → HasStepped v (record v { pass = p; pass_trail = r.trail ++ one ∷ [] }) one
has_stepped s r id v p one at is own leads =
    let c = (r.each_view id v at).pass is in record {
      adds = adds_mine (is_by_pass v.seat) v.pass_trail r.trail one own c.known;
      numbers = leads ∙ (sym (ap (λ (n : AllNumbers). pass_in n v.seat) (by_longer r.seats r.trail one))
          ∙ ap (λ (z : ℕ). pass_in (numbers_by z (r.trail ++ one ∷ [])) v.seat) (sym c.seats_are));
    }

-- the seat of a pass is one of the table
is_seat : (s : Words) (r : Recorded s) (id : ℕ) (v : View) → get_elem? s.views id ≡ some v → v.is_pass ≡ true
    → v.seat < length (numbers_by r.seats r.trail).passes
is_seat s r id v at is = let a = ((r.ruled.each_view id v at).pass is).inside in let b = r.wide in let d = as_many_by r.seats r.trail in
    omega arith

-- a pass loads the generation, and takes it
pub takes_generation : (slots id : ℕ) (me : Known) → me.0.is_pass ≡ true → me.0.is_keeper ≡ false
    → Allows Recorded slots id me 0 (λ n. n) (TakesGeneration (step slots 0 0 0 none) me)
takes_generation slots id me is alone s r _ at _ =
    let n : ℕ = get_or s.words 0 0 in
    let p = (r.ruled.each_view id me.0 at).pass is in
    let now : AllNumbers = numbers_by r.seats r.trail in
    let one : WordStep = TookGeneration me.0.seat in
    let leads : generation_taken n me.0.pass ≡ pass_in (numbers_after now one) me.0.seat =
    (λ i. generation_taken (generation_by s r i) (((r.each_view id me.0 at).pass is).numbers i))
    ∙ sym (this_pass now me.0.seat _ (is_seat s r id me.0 at is)) in
    let only : (k : ℕ) → me.0.seat ≢ k → is_by_pass k one ≡ false = λ k ne. ne_eqb me.0.seat k ne in (
      record me.0 { pass = generation_taken n me.0.pass; pass_trail = r.trail ++ one ∷ [] },
      keeps,
      tt,
      recorded s r id 0 n me (record me.0 { pass = generation_taken n me.0.pass; pass_trail = r.trail ++ one ∷ [] }) one
          (sees s r.ruled id me (generation_taken n me.0.pass) (r.trail ++ one ∷ []) at is refl (le_trans p.saw p.current) (le_refl n) refl)
          (lowers_none now me.0.seat _ (is_seat s r id me.0 at is) (le_refl (pass_in now me.0.seat).word))
          (recalls_own s r id me.0 (generation_taken n me.0.pass) one at is (λ h. let no : false ≡ true = sym alone ∙ h in cc) refl only leads)
          (by_other_passes s r.ruled id me.0 one at is refl only),
      record {
        after = refl;
        stepped = has_stepped s r id me.0 (generation_taken n me.0.pass) one at is (eq-eqb me.0.seat me.0.seat refl) leads;
        by_pass = is;
        word = refl;
        rises = p.current;
        in_range = r.ruled.in_range;
      },
    )

-- a pass loads the generation, and its `since` stays
pub sees_generation : (slots id : ℕ) (me : Known) → me.0.is_pass ≡ true → (me.0.is_keeper ≡ true → length me.0.keeper.bounds ≤ me.0.given)
    → Allows Recorded slots id me 0 (λ n. n) (SeesGeneration (step slots 0 0 0 none) me)
sees_generation slots id me is all_given s r _ at _ =
    let n : ℕ = get_or s.words 0 0 in
    let f = r.ruled.each_view id me.0 at in
    let p = f.pass is in
    let now : AllNumbers = numbers_by r.seats r.trail in
    let one : WordStep = SawGeneration me.0.seat in
    let leads : generation_seen n me.0.pass ≡ pass_in (numbers_after now one) me.0.seat =
    (λ i. generation_seen (generation_by s r i) (((r.each_view id me.0 at).pass is).numbers i))
    ∙ sym (this_pass now me.0.seat _ (is_seat s r id me.0 at is)) in
    let only : (k : ℕ) → me.0.seat ≢ k → is_by_pass k one ≡ false = λ k ne. ne_eqb me.0.seat k ne in (
      record me.0 { pass = generation_seen n me.0.pass; pass_trail = r.trail ++ one ∷ [] },
      keeps,
      tt,
      recorded s r id 0 n me (record me.0 { pass = generation_seen n me.0.pass; pass_trail = r.trail ++ one ∷ [] }) one
          (sees s r.ruled id me (generation_seen n me.0.pass) (r.trail ++ one ∷ []) at is refl (le_refl me.0.pass.since)
          (le_trans p.saw p.current) refl)
          (lowers_none now me.0.seat _ (is_seat s r id me.0 at is) (le_refl (pass_in now me.0.seat).word))
          (recalls_own s r id me.0 (generation_seen n me.0.pass) one at is all_given refl only leads)
          (by_other_passes s r.ruled id me.0 one at is refl only),
      record {
        after = refl;
        stepped = has_stepped s r id me.0 (generation_seen n me.0.pass) one at is (eq-eqb me.0.seat me.0.seat refl) leads;
        by_pass = is;
        word = refl;
        rises = p.current;
        in_range = r.ruled.in_range;
        met = λ k. (f.keeper k).generation_is;
      },
    )

-- a pass stores x in its own word, which is a step that leads to this word and lowers none
stores_own : (s : Words) (r : Recorded s) (id i x : ℕ) (me : Known) (one : WordStep) → get_elem? s.views id ≡ some me.0
    → me.0.is_pass ≡ true → me.0.is_keeper ≡ false → me.0.seat + 1 ≡ i
    → me.0.pass.word ≤ x → (x ≢ left_word → x ≤ me.0.pass.since) → me.0.pass.word ≢ left_word → is_by_keeper one ≡ false
    → ((k : ℕ) → me.0.seat ≢ k → is_by_pass k one ≡ false) → LowersNone (numbers_by r.seats r.trail) one
    → record me.0.pass { word = x } ≡ pass_in (numbers_after (numbers_by r.seats r.trail) one) me.0.seat
    → Recorded (stepped s i x id me.1 (record me.0 { pass = record me.0.pass { word = x }; pass_trail = r.trail ++ one ∷ [] }) keeps)
stores_own s r id i x me one at is apart here above below unheld no_keeper only up leads =
    recorded s r id i x me (record me.0 { pass = record me.0.pass { word = x }; pass_trail = r.trail ++ one ∷ [] }) one
    (stores s r.ruled id i x me (r.trail ++ one ∷ []) at is apart here above below unheld) up
    (recalls_own s r id me.0 (record me.0.pass { word = x }) one at is (λ h. let no : false ≡ true = sym apart ∙ h in cc) no_keeper only leads)
    (by_other_passes s r.ruled id me.0 one at is no_keeper only)

-- a pass stores its `since`
pub stores_since : (slots id i x : ℕ) (me : Known) → me.0.is_pass ≡ true → me.0.is_keeper ≡ false → me.0.seat + 1 ≡ i
    → x ≡ me.0.pass.since → me.0.pass.word ≤ x → x ≤ last_generation
    → Allows Recorded slots id me i (λ _. x) (λ _. StoresSince (step slots i x 0 none) me x)
stores_since slots id i x me is apart here same above small s r _ at _ =
    let now : AllNumbers = numbers_by r.seats r.trail in
    let one : WordStep = StoredSince me.0.seat in
    let leads : since_stored me.0.pass ≡ pass_in (numbers_after now one) me.0.seat =
    ap since_stored ((r.each_view id me.0 at).pass is).numbers ∙ sym (this_pass now me.0.seat _ (is_seat s r id me.0 at is)) in
    let only : (k : ℕ) → me.0.seat ≢ k → is_by_pass k one ≡ false = λ k ne. ne_eqb me.0.seat k ne in (
      record me.0 { pass = since_stored me.0.pass; pass_trail = r.trail ++ one ∷ [] },
      keeps,
      tt,
      subst (λ (y : ℕ). Recorded (stepped s i x id me.1 (record me.0 {
        pass = record me.0.pass { word = y };
        pass_trail = r.trail
            ++ one ∷ [];
      }) keeps)) same
          (stores_own s r id i x me one at is apart here above (λ _. omega arith) (λ e. omega arith) refl only
          (lowers_none now me.0.seat (since_stored (pass_in now me.0.seat)) (is_seat s r id me.0 at is)
          (subst (λ (p : PassNumbers). p.word ≤ p.since) ((r.each_view id me.0 at).pass is).numbers (omega arith)))
          (ap (λ (y : ℕ). record me.0.pass { word = y }) same ∙ leads)),
      record {
        after = refl;
        stepped = has_stepped s r id me.0 (since_stored me.0.pass) one at is (eq-eqb me.0.seat me.0.seat refl) leads;
        by_pass = is;
        word = sym here;
        stored = same;
      },
    )

-- a pass stores "left"
pub stores_left : (slots id i x : ℕ) (me : Known) → me.0.is_pass ≡ true → me.0.is_keeper ≡ false → me.0.seat + 1 ≡ i → x ≡ left_word
    → me.0.pass.word ≤ last_generation
    → Allows Recorded slots id me i (λ _. x) (λ _. StoresLeft (step slots i x 0 none) me x)
stores_left slots id i x me is apart here same small s r _ at _ =
    let now : AllNumbers = numbers_by r.seats r.trail in
    let one : WordStep = StoredLeft me.0.seat in
    let leads : left_stored me.0.pass ≡ pass_in (numbers_after now one) me.0.seat =
    ap left_stored ((r.each_view id me.0 at).pass is).numbers ∙ sym (this_pass now me.0.seat _ (is_seat s r id me.0 at is)) in
    let only : (k : ℕ) → me.0.seat ≢ k → is_by_pass k one ≡ false = λ k ne. ne_eqb me.0.seat k ne in (
      record me.0 { pass = left_stored me.0.pass; pass_trail = r.trail ++ one ∷ [] },
      keeps,
      tt,
      subst (λ (y : ℕ). Recorded (stepped s i x id me.1 (record me.0 {
        pass = record me.0.pass { word = y };
        pass_trail = r.trail
            ++ one ∷ [];
      }) keeps)) same
          (stores_own s r id i x me one at is apart here (omega arith) (λ ne. absurd (ne same)) (λ e. omega arith) refl only
          (lowers_none now me.0.seat (left_stored (pass_in now me.0.seat)) (is_seat s r id me.0 at is)
          (subst (λ (p : PassNumbers). p.word ≤ left_word) ((r.each_view id me.0 at).pass is).numbers (omega arith)))
          (ap (λ (y : ℕ). record me.0.pass { word = y }) same ∙ leads)),
      record {
        after = refl;
        stepped = has_stepped s r id me.0 (left_stored me.0.pass) one at is (eq-eqb me.0.seat me.0.seat refl) leads;
        by_pass = is;
        word = sym here;
        stored = same;
      },
    )

-- no other view has a part in a step of the keeper of this one
by_other_keepers : (s : Words) (r : Ruled s) (id : ℕ) (v : View) (one : WordStep) → get_elem? s.views id ≡ some v → v.is_keeper ≡ true
    → ((k : ℕ) → is_by_pass k one ≡ false)
    → (j : ℕ) (u : View) → j ≢ id → get_elem? s.views j ≡ some u → IsByOthers u one
by_other_keepers s r id v one at is apart j u other there =
    let mine = (r.each_view id v at).keeper is in
    let f = r.each_view j u there in record {
      pass = λ _. apart u.seat;
      keeper = λ h. absurd (other (sym (f.keeper h).owns ∙ mine.owns));
      not_given = λ h i l. apart i;
    }

-- the view of the keeper after its own step, which leads to these numbers
keeper_recalls_own : (s : Words) (r : Recorded s) (id : ℕ) (v w : View) (one : WordStep) → get_elem? s.views id ≡ some v
    → v.is_keeper ≡ true → ((k : ℕ) → is_by_pass k one ≡ false) → w ≡ record v { keeper = w.keeper; keeper_trail = r.trail ++ one ∷ [] }
    → w.keeper ≡ (numbers_after (numbers_by r.seats r.trail) one).keeper
    → Recalls r.seats (r.trail ++ one ∷ []) w
keeper_recalls_own s r id v w one at is apart same leads =
    let c = r.each_view id v at in
    subst (Recalls r.seats (r.trail ++ one ∷ [])) (sym same) record {
      pass = λ h. let p = pass_recalls r.seats r.trail v one (apart v.seat) (c.pass h) in record {
        seats_are = p.seats_are;
        numbers = p.numbers;
        known = p.known;
      };
      keeper = λ h. record {
        seats_are = (c.keeper h).seats_are;
        numbers = leads ∙ sym (ap (λ (n : AllNumbers). n.keeper) (by_longer r.seats r.trail one));
        known = none_since is_by_keeper (r.trail ++ one ∷ []);
        not_given = λ i l. still_none i r.trail one ((c.keeper h).not_given i l) (apart i);
      };
    }

-- what the keeper tells of its step
keeper_has_stepped : (s : Words) (r : Recorded s) (id : ℕ) (v w : View) (one : WordStep) → get_elem? s.views id ≡ some v
    → v.is_keeper ≡ true → is_by_keeper one ≡ true → LowersNone (numbers_by r.seats r.trail) one
    → w.keeper_trail ≡ r.trail ++ one ∷ []
    → w.keeper ≡ (numbers_after (numbers_by r.seats r.trail) one).keeper → KeeperHasStepped v w one
keeper_has_stepped s r id v w one at is own up same leads =
    let c = (r.each_view id v at).keeper is in record {
      adds = subst (λ (h : List WordStep). Adds is_by_keeper v.keeper_trail h (one ∷ [])) (sym same)
          (adds_mine is_by_keeper v.keeper_trail r.trail one own c.known);
      numbers = leads ∙ (sym (ap (λ (n : AllNumbers). n.keeper) (by_longer r.seats r.trail one))
          ∙ (λ i. (numbers_by (sym c.seats_are i) (sym same i)).keeper));
      rising = subst (λ (z : ℕ). IsRising z w.keeper_trail) (sym c.seats_are)
          (subst (IsRising r.seats) (sym same) (rising_more r.seats r.trail one up r.rising));
    }

-- the keeper adds one to the generation
pub adds_one : (slots id : ℕ) (me : Known) → me.0.is_keeper ≡ true → me.0.keeper.generation < last_generation
    → Allows Recorded slots id me 0 (λ n. (n + 1) % 2 ^ 64) (AddsOne (step slots 0 1 0 none) me)
adds_one slots id me is room s r _ at _ =
    let one : WordStep = AddedOne in
    let up : LowersNone (numbers_by r.seats r.trail) one = λ k. le_refl (pass_in (numbers_by r.seats r.trail) k).word in
    let w : View = record me.0 { keeper = generation_raised me.0.keeper; keeper_trail = r.trail ++ one ∷ [] } in
    let leads : w.keeper ≡ (numbers_after (numbers_by r.seats r.trail) one).keeper =
    ap generation_raised ((r.each_view id me.0 at).keeper is).numbers in (
      w,
      keeps,
      tt,
      recorded s r id 0 _ me w one (raises s r.ruled id me (r.trail ++ one ∷ []) at is room) up
          (keeper_recalls_own s r id me.0 w one at is (λ k. refl) refl leads) (by_other_keepers s r.ruled id me.0 one at is (λ k. refl)),
      record {
        after = refl;
        stepped = keeper_has_stepped s r id me.0 w one at is refl up refl leads;
        by_keeper = is;
        word = refl;
        added = refl;
        found = ((r.ruled.each_view id me.0 at).keeper is).generation_is;
      },
    )

-- the keeper loads the word of the seat i
pub takes_word : (slots id i : ℕ) (me : Known) → me.0.is_keeper ≡ true → i < length me.0.keeper.bounds
    → Allows Recorded slots id me (i + 1) (λ n. n) (TakesWord (step slots (i + 1) 0 0 none) me)
takes_word slots id i me is room s r _ at _ =
    let n : ℕ = get_or s.words (i + 1) 0 in
    let f = r.ruled.each_view id me.0 at in
    let q = f.keeper is in
    let back : (i + 1) - 1 ≡ i = omega arith in
    let one : WordStep = TookWord i in
    let up : LowersNone (numbers_by r.seats r.trail) one = λ k. le_refl (pass_in (numbers_by r.seats r.trail) k).word in
    let w : View = record me.0 { keeper = word_taken i n me.0.keeper; keeper_trail = r.trail ++ one ∷ [] } in
    let inside : i + 1 < length s.words = let h = q.wide in omega arith in
    let leads : w.keeper ≡ (numbers_after (numbers_by r.seats r.trail) one).keeper =
    (λ j. word_taken i (word_by s r i inside j) (((r.each_view id me.0 at).keeper is).numbers j)) in (
      w,
      keeps,
      tt,
      recorded s r id (i + 1) n me w one (looks s r.ruled id i me (r.trail ++ one ∷ []) at is room) up
          (keeper_recalls_own s r id me.0 w one at is (λ k. refl) refl leads) (by_other_keepers s r.ruled id me.0 one at is (λ k. refl)),
      record {
        after = λ j. (record me.0 { keeper = word_taken (sym back j) n me.0.keeper; keeper_trail = r.trail ++ one ∷ [] }, me.1);
        stepped = subst (λ (k : ℕ). KeeperHasStepped me.0 w (TookWord k)) (sym back)
            (keeper_has_stepped s r id me.0 w one at is refl up refl leads);
        by_keeper = is;
        word = omega arith;
        rises = subst (λ (z : ℕ). get_or me.0.keeper.bounds z 0 ≤ n) (sym back) (q.below i room);
        in_range = λ ne. let b = word_in_range s r.ruled i inside ne in let g = q.generation_is in omega arith;
        met = λ h e. sym (ap (λ (z : ℕ). get_or s.words z 0) e) ∙ (f.pass h).own_word;
        together = λ h. since_other (is_by_pass me.0.seat) me.0.pass_trail r.trail one refl ((r.each_view id me.0 at).pass h).known;
      },
    )
