-- Machinery, cited by no public contract: the outcomes of jobs, and their places.
use Rattle.std.specs.Prelude.{◌≡◌, ℕ, List, slice_get, slice_index_or, Option, Some, None, Result, Ok, Err, ⊤}
use Rattle.nc_vet.specs.declared.vetted.Marks.{Marks}
use Rattle.nc_vet.specs.Listed.{listed}
use Rattle.nc_vet.specs.declared.fault.VetFault.{VetFault}
use Rattle.nc_vet.specs.Chunk.{IsValid}
use Rattle.nc_vet.specs.Faults.{HasFault}
use Rattle.nc_work.specs.declared.job.Job.{Job}

-- the outcome of judging a job's chunk in place: the marks of a valid chunk, or its fault
abbrev pub IsOutcomeOf : Job → Result Marks VetFault → Type 0
IsOutcomeOf job (Ok kept) = IsValid (record { base = job.base; limit = job.limit; code = job.code.items; marks = listed job.code.items kept })
IsOutcomeOf job (Err fault) = HasFault job.base job.limit job.code.items fault

-- the outcome in place `at`, if there is one, is one of the job of this number
abbrev pub FitsJob : List Job → ℕ → Option (Result Marks VetFault) → Type 0
FitsJob jobs at None = ⊤
FitsJob jobs at (Some outcome) = (job : Job) × (slice_get jobs at ≡ Some job) × IsOutcomeOf job outcome

-- each place is empty, or has an outcome of the job of its number
pub record AreOutcomes (jobs : List Job) (outcomes : List (Option (Result Marks VetFault))) : Type 0 where
  pub each : (k : ℕ) → FitsJob jobs k (slice_index_or outcomes k None)
