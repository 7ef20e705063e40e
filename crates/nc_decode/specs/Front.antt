-- The function that finds the instruction at the front of some bytes, and its properties. `law_of_fronts` ties it to the
-- relation of `Spelling`; the crates above reason by these definitions.
use Rattle.std.specs.Prelude.{◌≡◌, ◌≢◌, ◌↔◌, ℕ, ◌<◌, ◌≤◌, List, [], ◌∷◌, ◌++◌, length, take, Option, Some, None, nat_lt, if◌then◌else◌}
use Rattle.std.specs.Prelude.{pos, IfSome, IsTrue}
use Rattle.std.specs.Result.{result_ok}
use Rattle.nc_decode.specs.declared.instruction.Instr.{Instr}
use Rattle.nc_decode.specs.declared.instruction.Flow.{Flow}
use Rattle.nc_decode.specs.declared.instruction.Flow.TheVariants.{Next, Stop}
use Rattle.nc_decode.specs.Barred.{IsBarred}
use Rattle.nc_decode.specs.machinery.Reading.{reading}
use Rattle.nc_decode.specs.Spelling.{mask, Spells, IsAtFront}
use Rattle.nc_decode.specs.Transfers.{is_direct, may_transfer}

-- the bytes before the first number that is not a byte
abbrev pub leading_bytes : List ℕ → List ℕ
leading_bytes [] = []
leading_bytes (b ∷ rest) = if nat_lt b 256 then b ∷ leading_bytes rest else []

-- the permitted instruction at the front of the bytes, if there is one; `decode` returns it
unfoldable pub first_instruction : List ℕ → Option Instr
first_instruction bytes = result_ok (reading (leading_bytes bytes))

-- for every list of numbers, `first_instruction` finds `i` if and only if `IsAtFront bytes i`
abbrev pub IsExact : Type 0
IsExact = (bytes : List ℕ) (i : Instr) → (first_instruction bytes ≡ Some i) ↔ IsAtFront bytes i

-- no permitted instruction is the beginning of a longer one
abbrev pub IsPrefixFree : Type 0
IsPrefixFree = (one more : List ℕ) (i j : Instr) → Spells one i → Spells (one ++ more) j → more ≡ []

-- an instruction of this length and flow, with no displacement and no register, that masks nothing
abbrev pub plain : ℕ → Flow → Instr
plain len flow = record { len = len; flow = flow; rel = pos 0; reg = 0; masks = None }

-- F4 (HLT) is an instruction of one byte after which control goes nowhere, whatever bytes follow
abbrev pub IsStopFirst : Type 0
IsStopFirst = (rest : List ℕ) → first_instruction (0xF4 ∷ rest) ≡ Some (plain 1 Stop)

-- the length of the instruction at the front is at least 1, and at most the number of bytes given
abbrev pub HasItsLength : Type 0
HasItsLength = (bytes : List ℕ) (i : Instr) → first_instruction bytes ≡ Some i → (1 ≤ i.len) × (i.len ≤ length bytes)

-- the instruction at the front depends on its own bytes only, not on those after it
abbrev pub DependsOnItsBytes : Type 0
DependsOnItsBytes = (bytes others : List ℕ) (i : Instr) → first_instruction bytes ≡ Some i → take i.len others ≡ take i.len bytes
    → first_instruction others ≡ Some i

-- only an instruction with the flow `Next` masks a register
abbrev pub MasksOnlyBeforeNext : Type 0
MasksOnlyBeforeNext = (bytes : List ℕ) (i : Instr) → first_instruction bytes ≡ Some i → i.flow ≢ Next → i.masks ≡ None

-- registers are numbered from 0 to 7, and register 4, the stack pointer, is never masked
abbrev pub NamesRegisters : Type 0
NamesRegisters = (bytes : List ℕ) (i : Instr) → first_instruction bytes ≡ Some i → (i.reg < 8) × IfSome i.masks (λ r. (r < 8) × (r ≢ 4))

-- an instruction masks register r if and only if its bytes are `mask r` and r is one of 0 to 7 except 4
abbrev pub MasksExactly : Type 0
MasksExactly = (bytes : List ℕ) (i : Instr) (r : ℕ) → first_instruction bytes ≡ Some i → (i.masks ≡ Some r)
    ↔ ((take i.len bytes ≡ mask r) × (r < 8) × (r ≢ 4))

-- an instruction with a prefix has the flow `Next` and masks nothing
abbrev pub GoesOnAfterPrefix : Type 0
GoesOnAfterPrefix = (bytes : List ℕ) (i : Instr) (s : Spells bytes i) → s.parts.prefix ≢ None → (i.flow ≡ Next) × (i.masks ≡ None)

-- no permitted instruction is barred (`IsBarred`)
abbrev pub NeverBarred : Type 0
NeverBarred = (bytes : List ℕ) (i : Instr) → Spells bytes i → ¬ IsBarred bytes

-- the bytes of the instruction that `first_instruction` finds are not barred
abbrev pub NeverBarredAtFront : Type 0
NeverBarredAtFront = (bytes : List ℕ) (i : Instr) → first_instruction bytes ≡ Some i → ¬ IsBarred (take i.len bytes)

-- the first byte of a direct transfer passes `may_transfer`
abbrev pub BeginsAsTransfer : Type 0
BeginsAsTransfer = (byte : ℕ) (rest : List ℕ) (i : Instr) → Spells (byte ∷ rest) i → IsTrue (is_direct i.flow) → IsTrue (may_transfer byte)
