-- Machinery of the proofs, cited by no public contract: the classes of a bundle by the states of the automaton.
use Rattle.std.specs.Prelude.{◌≡◌, ℕ, ◌≤◌, Option, None, List, [], ◌∷◌, length, ◌==◌, nat_lt, slice_index, if◌then◌else◌}
use Rattle.nc_decode.specs.declared.automaton.TheConstants.{END, AFTER_PAIR}
use Rattle.nc_vet.specs.States.{states_after, bundle_bytes}
use Rattle.nc_reading.specs.declared.class.Class.{Class}
use Rattle.nc_reading.specs.declared.class.Class.TheVariants.{Inside, Entry, Second}
use Rattle.nc_reading.specs.machinery.Seen.{HasFilled}

-- the class of a byte, by the state before it and the state after the byte that follows it
abbrev pub class_by : ℕ → ℕ → Class
class_by before next = if nat_lt before END then Inside else (if next == AFTER_PAIR then Second else Entry)

-- the classes of some bytes, by the state before the first and the states after each; 0 stands for a state after the last
abbrev pub classes_by : ℕ → List ℕ → List Class
classes_by before [] = []
classes_by before (s ∷ states) = class_by before (slice_index states 0) ∷ classes_by s states

-- the classes of the bytes of the bundle that begins at a place of the code, if an instruction ends at its end
abbrev pub bundle_classes : List ℕ → ℕ → List Class
bundle_classes code at = classes_by END (states_after END (bundle_bytes code at))

-- If `old` has the classes of the bytes before a place, `new` has those of the bytes before `end`, which is that place or
-- a later one.
pub record ReadsOn (code : List ℕ) (at : ℕ) (old : List Class) (end : ℕ) (new : List Class) : Type 0 where
  pub read : (masked : Option ℕ) → HasFilled code at masked old → HasFilled code end (if end == at then masked else None) new
  pub low : at ≤ end
  pub room : end ≤ length code
  pub long : length new ≡ length old
