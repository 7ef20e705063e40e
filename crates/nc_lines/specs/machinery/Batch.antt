-- Machinery of the proofs, cited by no public contract: lines gathered to be vetted, and their verdicts in order.
use Rattle.std.specs.Prelude.{◌≡◌, ◌++◌, ℕ, Bool, true, false, List, [], ◌∷◌, map, MatchOption, Option, Some, None, Result, Ok, Err}
use Rattle.std.specs.Prelude.{is_some}
use Rattle.std.specs.List.{flat_map}
use Rattle.std.specs.Global.{Vec}
use Rattle.nc_vet.specs.Chunk.{MarkedChunk, IsValid}
use Rattle.nc_vet.specs.Faults.{HasFault}
use Rattle.nc_vet.specs.declared.fault.VetFault.{VetFault}
use Rattle.nc_work.specs.declared.job.Job.{Job}
use Rattle.nc_lines.specs.Words.{chunk_in}
use Rattle.nc_lines.specs.declared.batch.Batch.{Batch}

-- a job without the location of its bytes in memory
pub record JobValue : Type 0 where
  pub base : ℕ
  pub limit : ℕ
  pub code : List ℕ

-- the value of a job, without the location of its bytes in memory
abbrev pub value_of : Job → JobValue
value_of job = record { base = job.base; limit = job.limit; code = job.code.items }

-- the job of a line, if it names a chunk
abbrev pub jobs_for : ℕ → Option (ℕ × List ℕ) → List JobValue
jobs_for limit None = []
jobs_for limit (Some placed) = record { base = placed.0; limit = limit; code = placed.1 } ∷ []

-- a line is gathered: there is no reply, and the chunk that it names, if any, becomes the last job
pub record Gathers (old : Batch) (line reply : List ℕ) (new : Batch) : Type 0 where
  pub nothing : reply ≡ []
  pub limit : new.limit ≡ old.limit
  pub named : new.named.items ≡ old.named.items ++ is_some (chunk_in line) ∷ []
  pub jobs : map value_of new.jobs.items ≡ map value_of old.jobs.items ++ jobs_for old.limit (chunk_in line)

-- a verdict on this chunk
abbrev pub IsFound : ℕ → (ℕ × List ℕ) → Result MarkedChunk (Vec ℕ × VetFault) → Type 0
IsFound limit placed (Ok v) = (v.base ≡ placed.0) × (v.limit ≡ limit) × (v.code ≡ placed.1) × IsValid v
IsFound limit placed (Err e) = HasFault placed.0 limit placed.1 e.1

-- `named` says which of the lines name a chunk, and `verdicts` are those on these chunks, in order
abbrev pub AreFound : ℕ → List (List ℕ) → List Bool → List (Result MarkedChunk (Vec ℕ × VetFault)) → Type 0
AreFound limit [] named verdicts = (named ≡ []) × (verdicts ≡ [])
AreFound limit (line ∷ lines) named verdicts = MatchOption (chunk_in line)
    ((rest : List Bool) × (named ≡ false ∷ rest) × AreFound limit lines rest verdicts)
    (λ placed. (rest : List Bool) × (verdict : Result MarkedChunk (Vec ℕ × VetFault))
    × (others : List (Result MarkedChunk (Vec ℕ × VetFault)))
    × (named ≡ true ∷ rest) × (verdicts ≡ verdict ∷ others) × IsFound limit placed verdict × AreFound limit lines rest others)

-- these lines were gathered after the earlier ones
pub record HasGathered (old new : Batch) (lines : List (List ℕ)) : Type 0 where
  pub limit : new.limit ≡ old.limit
  pub named : new.named.items ≡ old.named.items ++ map (λ line. is_some (chunk_in line)) lines
  pub jobs : map value_of new.jobs.items ≡ map value_of old.jobs.items ++ flat_map (λ line. jobs_for old.limit (chunk_in line)) lines
