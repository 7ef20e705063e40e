-- What a pool of workers may find for places.
use Rattle.std.specs.Prelude.{ℕ, ◌<◌, Option, Some, None, ⊤}
use Rattle.std.specs.Borrow.{MutBor}
use denote.Param.Members.{Shared}

-- `f` may be called with this place, whatever the worker's state
abbrev pub AcceptsPlace : {F S R : Type 0} → Shared F (ℕ × (MutBor S × Unit {0})) (Option R × (MutBor S × Unit {0})) → F → ℕ → Type 0
AcceptsPlace {F} {S} g f place = (state : MutBor S) → g.pre f (place, (state, tt))

-- `f` may be called with each place below `count`
abbrev pub AcceptsPlaces : {F S R : Type 0} → Shared F (ℕ × (MutBor S × Unit {0})) (Option R × (MutBor S × Unit {0})) → F → ℕ → Type 0
AcceptsPlaces g f count = (place : ℕ) → place < count → AcceptsPlace g f place

-- a call of `f` with this place may give the outcome, in some worker's state
pub record Gives {F S R : Type 0} (g : Shared F (ℕ × (MutBor S × Unit {0})) (Option R × (MutBor S × Unit {0}))) (f : F) (place : ℕ)
    (outcome : R) : Type 0 where
  pub before : MutBor S
  pub after : MutBor S
  pub call : g.post f (place, (before, tt)) (Some outcome, (after, tt))

-- the outcome, if there is one, is one that a call of `f` with this place may give
abbrev pub FitsPlace : {F S R : Type 0} → Shared F (ℕ × (MutBor S × Unit {0})) (Option R × (MutBor S × Unit {0})) → F → ℕ → Option R
    → Type 0
FitsPlace g f place None = ⊤
FitsPlace g f place (Some outcome) = Gives g f place outcome
