-- A property of each member of a list.
use Rattle.std.specs.Prelude.{⊤, List, [], ◌∷◌}

-- each member of the list has the property `P`
abbrev pub Each : {X : Type 0} → (X → Type 0) → List X → Type 0
Each P [] = ⊤
Each P (x ∷ xs) = P x × Each P xs
