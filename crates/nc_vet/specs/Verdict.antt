-- The result of vetting.
use Rattle.std.specs.Prelude.{◌≡◌, ℕ, Result, Ok, Err}
use Rattle.std.specs.Global.{Vec}
use Rattle.nc_vet.specs.declared.fault.VetFault.{VetFault}
use Rattle.nc_vet.specs.Chunk.{MarkedChunk, IsValid}
use Rattle.nc_vet.specs.Faults.{HasFault}

-- a permitted result of vetting: the chunk itself, which is valid; or its fault, with the code unchanged
abbrev pub IsVerdict : ℕ → ℕ → Vec ℕ → Result MarkedChunk (Vec ℕ × VetFault) → Type 0
IsVerdict base limit code (Ok v) = (v.base ≡ base) × (v.limit ≡ limit) × (v.code ≡ code.items) × IsValid v
IsVerdict base limit code (Err e) = (e.0 ≡ code) × HasFault base limit code.items e.1
