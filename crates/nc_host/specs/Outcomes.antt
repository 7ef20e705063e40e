-- The results that a host's calls report for a chunk.
use Rattle.std.specs.Prelude.{◌≡◌, ℕ, ◌<◌, ◌≤◌, ◌⊎◌, List}
use Rattle.nc_decode.specs.declared.instruction.Mark.{Mark}
use Rattle.nc_vet.specs.declared.fault.VetFault.{VetFault}
use Rattle.nc_vet.specs.Chunk.{IsValid}
use Rattle.nc_vet.specs.Faults.{HasFault}
use Rattle.nc_host.specs.declared.fault_numbers.TheConstants.{NO_ROOM}
use Rattle.nc_host.specs.Shown.{fault_number, fault_place}

-- the code is a valid chunk at this base for this limit, with these marks
abbrev pub IsAccepted : ℕ → ℕ → List ℕ → List Mark → Type 0
IsAccepted base limit code marks = IsValid (record { base = base; limit = limit; code = code; marks = marks })

-- the number, 1 to 8, and the address are those of a fault that the chunk has; the address is 0 for a fault without one
abbrev pub IsChunkFault : ℕ → ℕ → List ℕ → ℕ → ℕ → Type 0
IsChunkFault base limit code fault at =
    (f : VetFault) × HasFault base limit code f × (fault ≡ fault_number f) × (at ≡ fault_place f)

-- the outcome of a call that vets a chunk and then writes elements into a buffer: fault 0 for a valid chunk with enough
-- room; NO_ROOM for a valid chunk without; else the chunk's fault, 1 to 8, with its address
abbrev pub IsOutcome : (base limit : ℕ) → List ℕ → (wanted room : ℕ) → (fault at : ℕ) → Type 0
IsOutcome base limit code wanted room fault at =
    ((fault ≡ 0) × (at ≡ 0) × (wanted ≤ room) × ((marks : List Mark) × IsAccepted base limit code marks))
    ⊎ (((fault ≡ NO_ROOM) × (at ≡ 0) × (room < wanted) × ((marks : List Mark) × IsAccepted base limit code marks))
    ⊎ IsChunkFault base limit code fault at)
