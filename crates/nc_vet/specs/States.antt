-- The states of the automaton over a bundle.
use Rattle.std.specs.Prelude.{◌≡◌, ℕ, List, [], ◌∷◌, ◌++◌, take, drop}
use Rattle.nc_decode.specs.declared.automaton.TheConstants.{END}
use Rattle.nc_decode.specs.Automaton.{next_state}

-- the state after each of some bytes, from a state on
abbrev pub states_after : ℕ → List ℕ → List ℕ
states_after s [] = []
states_after s (b ∷ bs) = next_state s b ∷ states_after (next_state s b) bs

-- the bytes of the bundle that begins at a place of the code
abbrev pub bundle_bytes : List ℕ → ℕ → List ℕ
bundle_bytes code at = take 32 (drop at code)

-- the state before the first byte of the bundle that begins at a place of the code, the state after each of its bytes, and 0
abbrev pub AreBundleStates : List ℕ → ℕ → List ℕ → Type 0
AreBundleStates code at states = states ≡ END ∷ (states_after END (bundle_bytes code at) ++ 0 ∷ [])
