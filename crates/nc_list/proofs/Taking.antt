-- Taking chunks out that are due.
use Rattle.std.proofs.Common.{◌≡◌, ◌≢◌, ℕ, suc, ◌+◌, ◌<◌, ◌≤◌, Bool, true, false, not, List, [], ◌∷◌, ◌++◌, length, get_or, set, take, drop, map, if◌then◌else◌, refl, sym, ap, ◌∙◌, arith, subst, append_assoc, append-nil, inl, inr}
use Rattle.std.proofs.lemmas.Bool.{cases_lt}
use Rattle.std.proofs.lemmas.List.{length-map, length-take-le, map-set}
use Rattle.std.proofs.lemmas.List.Elements.{filter-append}
use Rattle.nc_list.specs.declared.chunk.Chunk.{Chunk}
use Rattle.nc_list.specs.Chunks.{AreTaken, freed, kept, is_due}
use Rattle.nc_list.specs.Parts.{AreTakenFrom, all_of}
use Rattle.nc_list.proofs.Pieces.{all_around, all_more, around, around_set, part_is}

-- the due chunks of two lists
pub freed_append : (least : ℕ) (xs ys : List Chunk) → freed least (xs ++ ys) ≡ freed least xs ++ freed least ys
freed_append least xs ys = filter-append (λ (c : Chunk). is_due least c.state) xs ys

-- the kept chunks of two lists
pub kept_append : (least : ℕ) (xs ys : List Chunk) → kept least (xs ++ ys) ≡ kept least xs ++ kept least ys
kept_append least xs ys = filter-append (λ (c : Chunk). not (is_due least c.state)) xs ys

-- the due chunks of a list of one chunk that is due are that chunk
freed_is : (least : ℕ) (c : Chunk) → is_due least c.state ≡ true → freed least (c ∷ []) ≡ c ∷ []
freed_is least c is = rw is refl

freed_not : (least : ℕ) (c : Chunk) → is_due least c.state ≡ false → freed least (c ∷ []) ≡ []
freed_not least c is = rw is refl

kept_is : (least : ℕ) (c : Chunk) → is_due least c.state ≡ true → kept least (c ∷ []) ≡ []
kept_is least c is = rw is refl

kept_not : (least : ℕ) (c : Chunk) → is_due least c.state ≡ false → kept least (c ∷ []) ≡ c ∷ []
kept_not least c is = rw is refl

-- a list with a member isn't empty
cons_none : (c : Chunk) (cs : List Chunk) → c ∷ cs ≡ [] → ⊥
cons_none c cs is = omega (arith, ap (λ (z : List Chunk). length z) is)

-- where no chunk is due, the first one isn't, and none of the others is
stay_first : (least : ℕ) (c : Chunk) (cs : List Chunk) {b : Bool} → is_due least c.state ≡ b → freed least (c ∷ cs) ≡ []
    → (is_due least c.state ≡ false) × (freed least cs ≡ [])
stay_first least c cs {b = true} is none = absurd (cons_none c (freed least cs) (sym (ap (λ (t : Bool). if t then c ∷ freed least cs else freed least cs) is) ∙ none))
stay_first least c cs {b = false} is none = (is, sym (ap (λ (t : Bool). if t then c ∷ freed least cs else freed least cs) is) ∙ none)

-- where no chunk is due all stay
pub all_stay : (least : ℕ) (cs : List Chunk) → freed least cs ≡ [] → kept least cs ≡ cs
all_stay least [] none = refl
all_stay least (c ∷ cs) none =
    let r = stay_first least c cs refl none in
    rw r.0 (ap (λ (z : List Chunk). c ∷ z) (all_stay least cs r.1))

-- Some chunks have been gone over: the due ones of the front have been taken, and all of the back stay. There is no back while there
-- is room for one more.
pub record AreGoneOver (most least : ℕ) (old new taken : List Chunk) : Type 0 where
  pub front : List Chunk
  pub back : List Chunk
  pub was : old ≡ front ++ back
  pub now : new ≡ kept least front ++ back
  pub taken_are : taken ≡ freed least front
  pub more : length taken < most → back ≡ []

-- chunks of which none is due have been gone over, and none is taken
pub gone_before : (most least : ℕ) (xs : List Chunk) → freed least xs ≡ [] → AreGoneOver most least xs xs []
gone_before most least xs none = record {
  front = xs;
  back = [];
  was = sym (append-nil xs);
  now = sym (append-nil (kept least xs) ∙ all_stay least xs none);
  taken_are = sym none;
  more = λ lt. refl;
}

-- chunks of which none is due have none due with one more that isn't
pub none_more : (least : ℕ) (xs : List Chunk) (c : Chunk) → freed least xs ≡ [] → is_due least c.state ≡ false → freed least (xs ++ c ∷ []) ≡ []
none_more least xs c none is =
    freed_append least xs (c ∷ []) ∙ (ap (λ (z : List Chunk). z ++ freed least (c ∷ [])) none ∙ freed_not least c is)

-- chunks are gone over with one more that is taken
pub gone_taken : (most least : ℕ) (old new taken : List Chunk) (c : Chunk) → is_due least c.state ≡ true → length taken < most
    → AreGoneOver most least old new taken → AreGoneOver most least (old ++ c ∷ []) new (taken ++ c ∷ [])
gone_taken most least old new taken c is lt so =
    let none = so.more lt in
    record {
      front = so.front ++ c ∷ [];
      back = [];
      was = ap (λ (z : List Chunk). z ++ c ∷ []) (so.was ∙ ap (λ (z : List Chunk). so.front ++ z) none ∙ append-nil so.front)
          ∙ sym (append-nil (so.front ++ c ∷ []));
      now = so.now ∙ (ap (λ (z : List Chunk). kept least so.front ++ z) none
          ∙ ap (λ (z : List Chunk). z ++ [])
          (sym (kept_append least so.front (c ∷ []) ∙ (ap (λ (z : List Chunk). kept least so.front ++ z) (kept_is least c is)
          ∙ append-nil (kept least so.front)))));
      taken_are = ap (λ (z : List Chunk). z ++ c ∷ []) so.taken_are
          ∙ sym (freed_append least so.front (c ∷ []) ∙ ap (λ (z : List Chunk). freed least so.front ++ z) (freed_is least c is));
      more = λ lt. refl;
    }

-- chunks are gone over with one more that stays, since it isn't due
gone_left : (most least : ℕ) (old new taken : List Chunk) (c : Chunk) → is_due least c.state ≡ false → length taken < most
    → AreGoneOver most least old new taken → AreGoneOver most least (old ++ c ∷ []) (new ++ c ∷ []) taken
gone_left most least old new taken c is lt so =
    let none = so.more lt in
    record {
      front = so.front ++ c ∷ [];
      back = [];
      was = ap (λ (z : List Chunk). z ++ c ∷ []) (so.was ∙ ap (λ (z : List Chunk). so.front ++ z) none ∙ append-nil so.front)
          ∙ sym (append-nil (so.front ++ c ∷ []));
      now = ap (λ (z : List Chunk). z ++ c ∷ [])
          (so.now ∙ (ap (λ (z : List Chunk). kept least so.front ++ z) none ∙ append-nil (kept least so.front)))
          ∙ (sym (kept_append least so.front (c ∷ []) ∙ ap (λ (z : List Chunk). kept least so.front ++ z) (kept_not least c is))
          ∙ sym (append-nil (kept least (so.front ++ c ∷ []))));
      taken_are = so.taken_are ∙ sym (freed_append least so.front (c ∷ [])
          ∙ (ap (λ (z : List Chunk). freed least so.front ++ z) (freed_not least c is) ∙ append-nil (freed least so.front)));
      more = λ lt. refl;
    }

-- chunks are gone over with one more that stays, since there is no room
gone_full : (most least : ℕ) (old new taken : List Chunk) (c : Chunk) → most ≤ length taken → AreGoneOver most least old new taken
    → AreGoneOver most least (old ++ c ∷ []) (new ++ c ∷ []) taken
gone_full most least old new taken c full so = record {
  front = so.front;
  back = so.back ++ c ∷ [];
  was = ap (λ (z : List Chunk). z ++ c ∷ []) so.was ∙ append_assoc so.front so.back (c ∷ []);
  now = ap (λ (z : List Chunk). z ++ c ∷ []) so.now ∙ append_assoc (kept least so.front) so.back (c ∷ []);
  taken_are = so.taken_are;
  more = λ lt. absurd (omega (arith, lt, full));
}

-- chunks are gone over with one more that stays, not due or without room
pub gone_on : (most least : ℕ) (old new taken : List Chunk) (c : Chunk) → (length taken < most → is_due least c.state ≡ false)
    → AreGoneOver most least old new taken → AreGoneOver most least (old ++ c ∷ []) (new ++ c ∷ []) taken
gone_on most least old new taken c why so =
    elim (cases_lt (length taken) most) [
      | inl lt ↦ gone_left most least old new taken c (why lt) lt so
      | inr full ↦ gone_full most least old new taken c full so
    ]

-- no chunk is taken where none is due
pub taken_none : (least : ℕ) (cs : List Chunk) → freed least cs ≡ [] → AreTaken least cs cs []
taken_none least cs none = record { front = []; back = cs; was = refl; now = refl; taken_are = refl; none = λ e. none }

-- where no chunk was taken all stay
pub taken_nothing : (least : ℕ) (old new : List Chunk) → AreTaken least old new [] → new ≡ old
taken_nothing least old new so =
    so.now ∙ (ap (λ (z : List Chunk). z ++ so.back) (all_stay least so.front (sym so.taken_are)) ∙ sym so.was)

-- chunks taken from one part are taken from all chunks
pub taken_from : (least : ℕ) (old new : List (List Chunk)) (taken : List Chunk) (k : ℕ) → AreTakenFrom least old new taken k
    → AreTaken least (all_of old) (all_of new) taken
taken_from least old new taken k so =
    let t = so.taken_are in
    let stay : kept least (all_of so.before) ≡ all_of so.before = all_stay least (all_of so.before) so.earlier in
    record {
      front = all_of so.before ++ t.front;
      back = t.back ++ all_of so.after;
      was = ap all_of so.was ∙ (all_around so.before so.here so.after
          ∙ (ap (λ (z : List Chunk). all_of so.before ++ (z ++ all_of so.after)) t.was
          ∙ (ap (λ (z : List Chunk). all_of so.before ++ z) (append_assoc t.front t.back (all_of so.after))
          ∙ sym (append_assoc (all_of so.before) t.front (t.back ++ all_of so.after)))));
      now = ap all_of so.now ∙ (all_around so.before so.left so.after
          ∙ (ap (λ (z : List Chunk). all_of so.before ++ (z ++ all_of so.after)) t.now
          ∙ (ap (λ (z : List Chunk). all_of so.before ++ z) (append_assoc (kept least t.front) t.back (all_of so.after))
          ∙ (sym (append_assoc (all_of so.before) (kept least t.front) (t.back ++ all_of so.after))
          ∙ ap (λ (z : List Chunk). z ++ (t.back ++ all_of so.after))
          (sym (kept_append least (all_of so.before) t.front ∙ ap (λ (z : List Chunk). z ++ kept least t.front) stay))))));
      taken_are = t.taken_are ∙ sym (freed_append least (all_of so.before) t.front
          ∙ ap (λ (z : List Chunk). z ++ freed least t.front) so.earlier);
      none = λ e. absurd (so.some e);
    }

-- a part, of which some were taken
pub taken_at : {X : Type 0} (f : X → List Chunk) (xs olds : List X) (k : ℕ) (p q : X) (least : ℕ) (taken : List Chunk) → k < length xs
    → map f xs ≡ map f olds → p ≡ get_or xs k p → AreTaken least (f p) (f q) taken
    → freed least (all_of (take k (map f olds))) ≡ [] → taken ≢ [] → AreTakenFrom least (map f olds) (map f (set xs k q)) taken k
taken_at {X = X} f xs olds k p q least taken lt same is took earlier some =
    let ps = map f olds in
    let long : length (map f xs) ≡ length xs = length-map xs f in
    let inside : k < length ps = omega (arith, lt, long, ap (λ (z : List (List Chunk)). length z) same) in
    let here : f p ≡ get_or ps k [] = part_is f xs k p lt is ∙ ap (λ (z : List (List Chunk)). get_or z k []) same in
    record {
      before = take k ps;
      here = get_or ps k [];
      left = f q;
      after = drop (suc k) ps;
      was = around ps k [] inside;
      now = map-set f xs k q ∙ (ap (λ (z : List (List Chunk)). set z k (f q)) same ∙ around_set ps k (f q) inside);
      index = sym (length-take-le k ps (omega (arith, inside)));
      earlier = earlier;
      taken_are = subst (λ (z : List Chunk). AreTaken least z (f q) taken) here took;
      some = some;
    }

-- the parts up to the next one have no due chunk if those before it and it have none
pub passed_more : (least : ℕ) (parts : List (List Chunk)) (k : ℕ) → k < length parts → freed least (all_of (take k parts)) ≡ []
    → freed least (get_or parts k []) ≡ [] → freed least (all_of (take (k + 1) parts)) ≡ []
passed_more least parts k lt earlier none =
    ap (freed least) (all_more parts k lt)
    ∙ (freed_append least (all_of (take k parts)) (get_or parts k [])
    ∙ (ap (λ (z : List Chunk). z ++ freed least (get_or parts k [])) earlier ∙ none))
