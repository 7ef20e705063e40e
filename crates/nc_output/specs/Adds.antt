-- Text that was added to other text.
use Rattle.std.specs.Prelude.{◌≡◌, ℕ, List, ◌++◌}

-- text that satisfies `Says` was added
pub record Adds (old new : List ℕ) (Says : List ℕ → Type 0) : Type 0 where
  pub text : List ℕ
  pub says : Says text
  pub added : new ≡ old ++ text
