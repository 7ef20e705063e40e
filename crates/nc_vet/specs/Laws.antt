-- A chunk has one verdict, code splits into instructions in at most one way, and a chunk that was valid stays valid.
use Rattle.std.specs.Prelude.{◌≡◌, ◌≢◌, ℕ, List}
use Rattle.nc_vet.specs.declared.fault.VetFault.{VetFault}
use Rattle.nc_vet.specs.declared.fault.VetFault.TheVariants.{OutOfMemory}
use Rattle.nc_decode.specs.Profiles.{first_profile, profile}
use Rattle.nc_vet.specs.Chunk.{Piece, code_of, AreSpelled, MarkedChunk, IsValidBy, IsValid}
use Rattle.nc_vet.specs.Faults.{HasFault}

-- a chunk has at most one fault besides lack of memory
abbrev pub HasOneFault : Type 0
HasOneFault = (base limit : ℕ) (code : List ℕ) (f g : VetFault) → HasFault base limit code f → HasFault base limit code g
    → f ≢ OutOfMemory → g ≢ OutOfMemory → f ≡ g

-- a valid chunk has no fault besides lack of memory
abbrev pub HasNoFault : Type 0
HasNoFault = (c : MarkedChunk) (fault : VetFault) → IsValid c → HasFault c.base c.limit c.code fault → fault ≡ OutOfMemory

-- valid chunks with the same code have the same marks
abbrev pub HasOneReading : Type 0
HasOneReading = (c d : MarkedChunk) → IsValid c → IsValid d → c.code ≡ d.code → c.marks ≡ d.marks

-- two lists of whole instructions with the same bytes are the same list
abbrev pub HasOneParting : Type 0
HasOneParting = (xs ys : List Piece) → AreSpelled xs → AreSpelled ys → code_of xs ≡ code_of ys → xs ≡ ys

-- a chunk that is valid by `first_profile` is valid by `profile`, with the same marks
abbrev pub KeepsValid : Type 0
KeepsValid = (c : MarkedChunk) → IsValidBy first_profile c → IsValidBy profile c
