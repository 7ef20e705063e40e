-- The verdicts on jobs.
use Rattle.std.specs.Prelude.{ℕ, ◌≤◌, Result}
use Rattle.std.specs.Global.{Vec}
use Rattle.nc_vet.specs.declared.fault.VetFault.{VetFault}
use Rattle.nc_vet.specs.Chunk.{MarkedChunk}
use Rattle.nc_vet.specs.Verdict.{IsVerdict}
use Rattle.nc_work.specs.declared.job.Job.{Job}

-- the verdict is a permitted result of vetting the job's chunk (`IsVerdict` of nc_vet)
abbrev pub IsVerdictOn : Job → Result MarkedChunk (Vec ℕ × VetFault) → Type 0
IsVerdictOn job verdict = IsVerdict job.base job.limit job.code verdict

-- the number of workers is from 1 to 16
abbrev pub AreWorkers : ℕ → Type 0
AreWorkers workers = (1 ≤ workers) × (workers ≤ 16)
