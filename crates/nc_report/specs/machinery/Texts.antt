-- Machinery of the proofs, cited by no public contract: texts that are added one after the other.
use Rattle.std.specs.Prelude.{ℕ, List}
use Rattle.std.specs.Borrow.{Bor}
use Rattle.std.specs.List.{flat_map}

-- the bytes of these texts
abbrev pub texts_joined : List (Bor (List ℕ)) → List ℕ
texts_joined texts = flat_map (λ text. text.now) texts
