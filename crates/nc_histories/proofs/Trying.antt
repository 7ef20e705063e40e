-- Attempts at events, one after the other: some of them, attempts at them, and all of them once more.
use Rattle.std.proofs.Common.{◌≡◌, List, [], ◌∷◌, ◌++◌, inl, inr, refl, ◌∙◌, sym, ap, subst, append-nil, append_assoc}
use Rattle.nc_region.specs.schedules.Events.{Event}
use Rattle.nc_histories.specs.Histories.{AreAttempts, NoneYet, OneMore}
use Rattle.nc_histories.proofs.Fronts.{split_joined}

-- attempts after attempts
attempts_append : (events first second : List Event) → AreAttempts events first → AreAttempts events second
    → AreAttempts events (first ++ second)
attempts_append events first [] a NoneYet = subst (AreAttempts events) (sym (append-nil first)) a
attempts_append events first _ a (OneMore {earlier} b part rest same) =
    subst (AreAttempts events) (append_assoc first earlier part)
    (OneMore (attempts_append events first earlier a b) part rest same)

-- the first of attempts are attempts
attempts_front : (events part rest made : List Event) → part ++ rest ≡ made → AreAttempts events made → AreAttempts events part
attempts_front events [] rest made is a = NoneYet
attempts_front events (x ∷ part) rest [] is NoneYet = absurd (let bad : x ∷ (part ++ rest) ≡ [] = is in cc)
attempts_front events (x ∷ part) rest _ is (OneMore {earlier} first last later same) =
    elim (split_joined (x ∷ part) rest earlier last is) [
      | inl f ↦ attempts_front events (x ∷ part) f.0 earlier (sym f.1) first
      | inr f ↦
          subst (AreAttempts events) (sym f.1)
          (OneMore first f.0 (rest ++ later)
          (sym (append_assoc f.0 rest later) ∙ (ap (λ (z : List Event). z ++ later) f.2 ∙ same)))
    ]

-- all events after attempts at them are attempts
attempts_whole : (events made : List Event) → AreAttempts events made → AreAttempts events (made ++ events)
attempts_whole events made a = OneMore a events [] (append-nil events)

-- attempts at events after attempts at them are attempts at them
attempts_at_all : (events tried made : List Event) → AreAttempts events tried → AreAttempts (tried ++ events) made → AreAttempts events made
attempts_at_all events tried [] a NoneYet = NoneYet
attempts_at_all events tried _ a (OneMore {earlier} first part rest same) =
    attempts_append events earlier part (attempts_at_all events tried earlier a first)
    (attempts_front events part rest (tried ++ events) same (attempts_whole events tried a))

-- so they are before the ones that were made
pub attempts_again : (events tried made : List Event) → AreAttempts events tried → AreAttempts (tried ++ events) made
    → AreAttempts events (made ++ tried)
attempts_again events tried made a b = attempts_append events made tried (attempts_at_all events tried made a b) a

-- attempts at no events are none
pub attempts_none : (made : List Event) → AreAttempts [] made → made ≡ []
attempts_none [] NoneYet = refl
attempts_none _ (OneMore {earlier} first part rest same) =
    ap (λ (z : List Event). z ++ part) (attempts_none earlier first) ∙ none part rest same
  where
    none : (part rest : List Event) → part ++ rest ≡ [] → part ≡ []
    none [] rest same = refl
    none (x ∷ part) rest same = absurd (let bad : x ∷ (part ++ rest) ≡ [] = same in cc)
