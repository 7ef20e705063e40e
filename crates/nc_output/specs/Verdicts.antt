-- Verdicts on chunks, and how they are written.
use Rattle.std.specs.Prelude.{ℕ, List, [], ◌∷◌, ◌++◌, Option, Some, None, codes}
use Rattle.std.specs.Int.{w32, to_be_bytes}
use Rattle.hex.specs.Hex.{encode_lower}
use Rattle.nc_decode.specs.declared.instruction.Mark.{Mark}
use Rattle.nc_vet.specs.Chunk.{IsValid}
use Rattle.nc_vet.specs.declared.fault.VetFault.{VetFault}
use Rattle.nc_vet.specs.declared.fault.VetFault.TheVariants.{BadBase, BadLength, OutOfRange, NotPermitted, Crosses, Bare, BadTarget}
use Rattle.nc_vet.specs.declared.fault.VetFault.TheVariants.{OutOfMemory}

-- the bytes are a valid chunk at this base for this limit
abbrev pub IsValidAt : ℕ → ℕ → List ℕ → Type 0
IsValidAt base limit bytes = (marks : List Mark) × IsValid (record { base = base; limit = limit; code = bytes; marks = marks })

-- a line with its end, a byte 0A
abbrev pub with_line_end : List ℕ → List ℕ
with_line_end line = line ++ 10 ∷ []

-- `refused`, a space, and these words
abbrev pub refused_words : List ℕ → List ℕ
refused_words name = codes "refused " ++ name

-- an address as eight lower-case hexadecimal digits
abbrev pub address_digits : ℕ → List ℕ
address_digits at = encode_lower (to_be_bytes w32 at)

-- the name of a chunk's fault
abbrev pub fault_name : VetFault → List ℕ
fault_name BadBase = codes "BadBase"
fault_name BadLength = codes "BadLength"
fault_name OutOfRange = codes "OutOfRange"
fault_name (NotPermitted at) = codes "NotPermitted"
fault_name (Crosses at) = codes "Crosses"
fault_name (Bare at) = codes "Bare"
fault_name (BadTarget at) = codes "BadTarget"
fault_name OutOfMemory = codes "OutOfMemory"

-- the address of a chunk's fault, if it has one
abbrev pub place_of : VetFault → Option ℕ
place_of (NotPermitted at) = Some at
place_of (Crosses at) = Some at
place_of (Bare at) = Some at
place_of (BadTarget at) = Some at
place_of _ = None

-- a space and the address, if there is one
abbrev pub address_after : Option ℕ → List ℕ
address_after None = []
address_after (Some at) = codes " " ++ address_digits at

-- the name of a chunk's fault, followed by its address if it has one
abbrev pub fault_words : VetFault → List ℕ
fault_words fault = fault_name fault ++ address_after (place_of fault)
