-- Machinery of the proofs, cited by no public contract: the classes of the first bytes in some reading.
use Rattle.std.specs.Prelude.{◌≡◌, ℕ, ◌-◌, List, ◌++◌, length, drop, replicate, Option}
use Rattle.nc_reading.specs.declared.class.Class.{Class}
use Rattle.nc_reading.specs.declared.class.Class.TheVariants.{Inside}
use Rattle.nc_reading.specs.declared.steps.Step.{Step}
use Rattle.nc_reading.specs.Reading.{ReadsFrom, IsReading, classes_of}

-- some steps read the code up to this place, whatever steps read the rest, and these are the classes of the bytes so far
pub record HasSeenTo (code : List ℕ) (at : ℕ) (masked : Option ℕ) (classes : List Class) : Type 0 where
  pub steps : List Step
  pub goes_on : (more : List Step) → ReadsFrom at masked (drop at code) more → IsReading code (steps ++ more)
  pub is : classes ≡ classes_of steps
  pub each : length classes ≡ at

-- the code is read up to this place, these are the classes of its bytes so far, and the classes after them are still `Inside`
pub record HasFilled (code : List ℕ) (at : ℕ) (masked : Option ℕ) (classes : List Class) : Type 0 where
  pub done : List Class
  pub seen : HasSeenTo code at masked done
  pub is : classes ≡ done ++ replicate (length code - at) Inside
