-- The reading of a refused chunk from its first byte to its last, step by step and past its faults.
use Rattle.std.specs.Prelude.{◌≡◌, ◌≢◌, ℕ, ◌+◌, ◌-◌, ◌/◌, ◌%◌, Bool, true, false, ◌==◌, List, [], ◌∷◌, length, drop, take, replicate}
use Rattle.std.specs.Prelude.{Option, Some, None, MatchOption, if◌then◌else◌}
use Rattle.std.specs.List.{flat_map}
use Rattle.nc_decode.specs.declared.instruction.Instr.{Instr}
use Rattle.nc_decode.specs.Front.{first_instruction}
use Rattle.nc_decode.specs.Spelling.{IsAtFront, IsProperFront}
use Rattle.nc_decode.specs.Transfers.{is_indirect}
use Rattle.nc_reading.specs.declared.class.Class.{Class}
use Rattle.nc_reading.specs.declared.class.Class.TheVariants.{Inside, Skipped, Entry, Second}
use Rattle.nc_reading.specs.declared.class.Class.TheVariants as class
use Rattle.nc_reading.specs.declared.steps.Found.{Found}
use Rattle.nc_reading.specs.declared.steps.Found.TheVariants.{Sound, Bare, Crosses, NotPermitted}
use Rattle.nc_reading.specs.declared.steps.Step.{Step}
use Rattle.nc_reading.specs.Lengths.{known_length}

-- The finding at the front of the bytes up to the end of a bundle, if this register, or none, was masked directly before: a
-- permitted instruction (bare if it is an indirect transfer without its mask), only the beginning of one, or neither.
abbrev pub Finds : List ℕ → Option ℕ → Found → Type 0
Finds window masked (Sound i) = IsAtFront window i × (is_indirect i.flow ≡ true → masked ≡ Some i.reg)
Finds window masked Bare = (i : Instr) × IsAtFront window i × (is_indirect i.flow ≡ true) × (masked ≢ Some i.reg)
Finds window masked Crosses = IsProperFront window
Finds window masked NotPermitted = ((i : Instr) → ¬ IsAtFront window i) × ¬ IsProperFront window

-- the length of a permitted instruction, or else the known length, if any, of one that is not permitted
abbrev pub extent_by : Option Instr → Option ℕ → Option ℕ
extent_by (Some i) known = Some i.len
extent_by None known = known

-- the length of the instruction at the front of these bytes, if it is known; the end of a bundle doesn't matter
abbrev pub extent : List ℕ → Option ℕ
extent rest = extent_by (first_instruction rest) (known_length rest)

-- A step at the front of these bytes, of which the first `room` are in its bundle: it ends with the instruction, or, if the
-- instruction's length isn't known, with the bundle.
pub record IsStep (room : ℕ) (masked : Option ℕ) (rest : List ℕ) (s : Step) : Type 0 where
  pub finds : Finds (take room rest) masked s.found
  pub goes : MatchOption (extent rest) ((s.whole ≡ false) × (s.len ≡ room)) (λ n. (s.whole ≡ true) × (s.len ≡ n))

-- the register that a step masks for the next one, which must begin in the same bundle
abbrev pub masked_in : Found → Bool → Option ℕ
masked_in (Sound i) same = if same then i.masks else None
masked_in _ same = None

abbrev pub masked_by : ℕ → Step → Option ℕ
masked_by at s = masked_in s.found (at / 32 == (at + s.len) / 32)

-- These steps read these bytes, which begin at this place, if this register, or none, was masked directly before: there is a
-- step as long as bytes are left.
abbrev pub ReadsFrom : ℕ → Option ℕ → List ℕ → List Step → Type 0
ReadsFrom at masked rest [] = rest ≡ []
ReadsFrom at masked rest (s ∷ steps) =
    (rest ≢ []) × IsStep (32 - at % 32) masked rest s × ReadsFrom (at + s.len) (masked_by at s) (drop s.len rest) steps

-- the code is read by these steps
abbrev pub IsReading : List ℕ → List Step → Type 0
IsReading code steps = ReadsFrom 0 None code steps

-- code has only one reading
abbrev pub IsReadOneWay : Type 0
IsReadOneWay = (code : List ℕ) (steps others : List Step) → IsReading code steps → IsReading code others → steps ≡ others

-- the class of the first byte of a step
abbrev pub class_of : Found → Class
class_of (Sound i) = if is_indirect i.flow then Second else Entry
class_of Bare = class.Bare
class_of Crosses = class.Crosses
class_of NotPermitted = class.NotPermitted

-- the class of each other byte of a step
abbrev pub later_class : Bool → Class
later_class whole = if whole then Inside else Skipped

-- the classes of the bytes of a step
abbrev pub step_classes : Step → List Class
step_classes s = class_of s.found ∷ replicate (s.len - 1) (later_class s.whole)

-- the classes of all bytes that these steps read
abbrev pub classes_of : List Step → List Class
classes_of steps = flat_map step_classes steps

-- some steps read the code, and these are the classes of its bytes
pub record HasClasses (code : List ℕ) (classes : List Class) : Type 0 where
  pub steps : List Step
  pub reading : IsReading code steps
  pub is : classes ≡ classes_of steps
  pub each : length classes ≡ length code
