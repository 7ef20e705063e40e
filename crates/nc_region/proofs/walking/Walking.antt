-- What a walk has gone over so far: states from the first to the one where it stands, with the choices used up.
use Rattle.std.proofs.Common.{◌≡◌, ℕ, ◌+◌, ◌<◌, ◌≤◌, List, [], ◌∷◌, ◌++◌, length, map, take, drop, get_or, None, inl, inr, arith, refl}
use Rattle.std.proofs.Common.{ap, sym, subst, ◌∙◌}
use Rattle.std.proofs.lemmas.List.{drop_more, drop_all, take-append-drop}
use Rattle.nc_decode.specs.declared.instruction.Mark.{Mark}
use Rattle.nc_text.specs.Machine.{State, state, Step, IsSafe, Joined}
use Rattle.nc_text.specs.Marks.{IsClosed}
use Rattle.nc_text.proofs.Offered.{IsKnown, safe_if_known, confined_if_closed}
use Rattle.nc_region.specs.declared.trace.End.{End}
use Rattle.nc_region.specs.Trace.{EndsBy, GoesOn, IsSafeWalk, IsTrace, IsWalkStart, Moves, Walks}

-- from a state these choices, all used up, lead over these states to the last of them
abbrev pub LeadsOver : List ℕ → State → List ℕ → List State → State → Type 0
LeadsOver text from [] [] now = from ≡ now
LeadsOver text from [] (next ∷ rest) now = ⊥
LeadsOver text from (choice ∷ choices) [] now = ⊥
LeadsOver text from (choice ∷ choices) (next ∷ rest) now = GoesOn text from × Moves text from choice next
    × LeadsOver text next choices rest now

-- a walk over some states goes on by one state more
over_more : (text : List ℕ) (from : State) (choices : List ℕ) (states : List State) (now next : State) (choice : ℕ)
    → LeadsOver text from choices states now → GoesOn text now → Moves text now choice next
    → LeadsOver text from (choices ++ choice ∷ []) (states ++ next ∷ []) next
over_more text from [] [] now next choice over goes moves =
    subst (λ (s : State). GoesOn text s × Moves text s choice next × (next ≡ next)) (sym over) (goes, moves, refl)
over_more text from [] (s ∷ states) now next choice over goes moves = absurd over
over_more text from (c ∷ choices) [] now next choice over goes moves = absurd over
over_more text from (c ∷ choices) (s ∷ states) now next choice over goes moves =
    (over.0, over.1, over_more text s choices states now next choice over.2 goes moves)

-- states that choices lead over, with an end at the last of them, are a walk
over_ends : (text : List ℕ) (from : State) (used left : List ℕ) (states : List State) (now : State) (end : End)
    → LeadsOver text from used states now → EndsBy text now left end → Walks text from (used ++ left) states end
over_ends text from [] left [] now end over ends = subst (λ (s : State). EndsBy text s left end) (sym over) ends
over_ends text from [] left (s ∷ states) now end over ends = absurd over
over_ends text from (c ∷ used) left [] now end over ends = absurd over
over_ends text from (c ∷ used) left (s ∷ states) now end over ends =
    (over.0, over.1, over_ends text s used left states now end over.2 ends)

-- a step from a known state leads to a known one
pub known_next : (text : List ℕ) (marks : List Mark) → IsClosed text marks → (now next : State) → IsKnown marks now → Step text now next
    → IsKnown marks next
known_next text marks closed now next known step =
    elim known [ inl m ↦ closed.steps now next m step | inr z ↦ absurd (omega (arith, z.0, step.0.0)) ]

-- a walk on its way: it has used up these choices, has gone over these places, and stands in a known state
pub record IsUnderWay (text : List ℕ) (marks : List Mark) (start : ℕ) (used places : List ℕ) (now : State) : Type 0 where
  pub states : List State
  pub over : LeadsOver text (state start None) used states now
  pub places_are : places ≡ start ∷ map (λ (s : State). s.place) states
  pub known : IsKnown marks now

-- the places of some states and of others behind them
map-append : (xs ys : List State) → map (λ (s : State). s.place) (xs ++ ys) ≡ map (λ (s : State). s.place) xs
    ++ map (λ (s : State). s.place) ys
map-append [] ys = refl
map-append (x ∷ xs) ys = ap (λ (l : List ℕ). x.place ∷ l) (map-append xs ys)

-- a walk under way stands on a safe state
pub way_is_safe : (text : List ℕ) (marks : List Mark) (start : ℕ) (used places : List ℕ) (now : State) → IsClosed text marks
    → IsUnderWay text marks start used places now → IsSafe text now
way_is_safe text marks start used places now closed way = safe_if_known text marks closed now way.known

-- a choice takes a walk under way one state further
pub way_goes_on : (text : List ℕ) (marks : List Mark) (start : ℕ) (used places : List ℕ) (now next : State) (choice : ℕ)
    → IsClosed text marks → IsUnderWay text marks start used places now → GoesOn text now → Moves text now choice next
    → IsUnderWay text marks start (used ++ choice ∷ []) (places ++ next.place ∷ []) next
way_goes_on text marks start used places now next choice closed way goes moves =
    record {
      states = way.states ++ next ∷ [];
      over = over_more text (state start None) used way.states now next choice way.over goes moves;
      places_are = ap (λ (l : List ℕ). l ++ next.place ∷ []) way.places_are
          ∙ ap (λ (l : List ℕ). start ∷ l) (sym (map-append way.states (next ∷ [])));
      known = known_next text marks closed now next way.known moves.step;
    }

-- a walk under way that ends is a trace
pub way_ends : (text : List ℕ) (marks : List Mark) (start : ℕ) (used left places : List ℕ) (now : State) (end : End)
    → IsUnderWay text marks start used places now → EndsBy text now left end → IsTrace text start (used ++ left) places end
way_ends text marks start used left places now end way ends =
    record {
      states = way.states;
      walks = over_ends text (state start None) used left way.states now end way.over ends;
      places_are = way.places_are;
    }

-- a walk under way that the next choice ends is a trace
pub way_ends_at : (text : List ℕ) (marks : List Mark) (start : ℕ) (choices places : List ℕ) (k : ℕ) (now : State) (end : End)
    → k < length choices → IsUnderWay text marks start (take k choices) places now
    → ((rest : List ℕ) → EndsBy text now (get_or choices k 0 ∷ rest) end) → IsTrace text start choices places end
way_ends_at text marks start choices places k now end short way ends =
    let left = subst (λ (l : List ℕ). EndsBy text now l end) (sym (drop_more choices k 0 short)) (ends (drop (k + 1) choices)) in
    subst (λ (l : List ℕ). IsTrace text start l places end) (take-append-drop k choices)
    (way_ends text marks start (take k choices) (drop k choices) places now end way left)

-- a walk under way that ends with no choice left is a trace
pub way_ends_last : (text : List ℕ) (marks : List Mark) (start : ℕ) (choices places : List ℕ) (k : ℕ) (now : State) (end : End)
    → length choices ≤ k → IsUnderWay text marks start (take k choices) places now → EndsBy text now [] end
    → IsTrace text start choices places end
way_ends_last text marks start choices places k now end all way ends =
    let left = subst (λ (l : List ℕ). EndsBy text now l end) (sym (drop_all k choices all)) ends in
    subst (λ (l : List ℕ). IsTrace text start l places end) (take-append-drop k choices)
    (way_ends text marks start (take k choices) (drop k choices) places now end way left)

-- a walk is a path of the machine, so its states are safe
pub walk_is_joined : (text : List ℕ) (now : State) (choices : List ℕ) (states : List State) (end : End)
    → Walks text now choices states end → Joined text now states
walk_is_joined text now choices [] end walks = tt
walk_is_joined text now [] (next ∷ rest) end walks = absurd walks
walk_is_joined text now (choice ∷ choices) (next ∷ rest) end walks = (walks.1.step, walk_is_joined text next choices rest end walks.2)

-- in a closed text all states of each walk from a bundle start of the region are safe
pub walk_is_safe : (text : List ℕ) (marks : List Mark) (start : ℕ) (choices : List ℕ) (end : End) → IsClosed text marks
    → IsWalkStart text start → IsSafeWalk text start choices end
walk_is_safe text marks start choices end closed begins states walks =
    confined_if_closed text marks closed (state start None ∷ states)
    (begins.0, begins.1, refl, walk_is_joined text (state start None) choices states end walks)
