-- Machinery of the proofs, cited by no public contract: direct transfers.
use Rattle.std.specs.Prelude.{ℕ, ℤ, None}
use Rattle.nc_decode.specs.declared.instruction.Flow.{Flow}
use Rattle.nc_decode.specs.declared.instruction.Instr.{Instr}

-- a direct transfer of this length, flow and displacement
abbrev pub transfer : ℕ → Flow → ℤ → Instr
transfer len flow rel = record { len = len; flow = flow; rel = rel; reg = 0; masks = None }
