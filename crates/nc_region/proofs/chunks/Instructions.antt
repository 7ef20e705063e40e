-- A valid chunk as the list of its instructions, by recursion over them.
use Rattle.std.specs.Prelude.{◌≡◌, ◌≢◌, ℕ, ◌+◌, ◌-◌, ◌%◌, ◌<◌, ◌≤◌, ◌⊎◌, ⊤, List, [], ◌∷◌, ◌++◌, length, drop, replicate, Option, Some}
use Rattle.std.specs.Prelude.{None}
use Rattle.nc_decode.specs.declared.instruction.Instr.{Instr}
use Rattle.nc_decode.specs.declared.instruction.Flow.{Flow}
use Rattle.nc_decode.specs.declared.instruction.Flow.TheVariants.{Branch, Jump, Call, IndirectJump, IndirectCall}
use Rattle.nc_decode.specs.declared.instruction.Mark.{Mark}
use Rattle.nc_decode.specs.declared.instruction.Mark.TheVariants.{Unmarked, Plain, After}
use Rattle.nc_decode.specs.Front.{first_instruction}
use Rattle.nc_decode.specs.Bundles.{IsBundleStart, IsInOneBundle}
use Rattle.nc_decode.specs.Transfers.{target}
use Rattle.nc_acts.specs.Chunks.{HasGoodSpan}

-- the bytes are these instructions, one after another
abbrev pub IsReading : List ℕ → List Instr → Type 0
IsReading bytes [] = bytes ≡ []
IsReading bytes (i ∷ rest) = (first_instruction bytes ≡ Some i) × IsReading (drop i.len bytes) rest

-- no instruction of a list, laid out from a place on, crosses a bundle
abbrev pub NoneCrosses : ℕ → List Instr → Type 0
NoneCrosses at [] = ⊤
NoneCrosses at (i ∷ rest) = IsInOneBundle at i.len × NoneCrosses (at + i.len) rest

-- an indirect transfer directly follows the mask of its register in the same bundle
abbrev pub FollowsMask : Flow → ℕ → Option ℕ → ℕ → Type 0
FollowsMask IndirectJump register before at = (before ≡ Some register) × (at % 32 ≢ 0)
FollowsMask IndirectCall register before at = (before ≡ Some register) × (at % 32 ≢ 0)
FollowsMask _ register before at = ⊤

-- each indirect transfer of these instructions follows its mask; `before` is what the instruction in front of them has masked
abbrev pub PairsHold : Option ℕ → ℕ → List Instr → Type 0
PairsHold before at [] = ⊤
PairsHold before at (i ∷ rest) = FollowsMask i.flow i.reg before at × PairsHold i.masks (at + i.len) rest

-- control goes where a register points
abbrev pub IsIndirect : Flow → Type 0
IsIndirect IndirectJump = ⊤
IsIndirect IndirectCall = ⊤
IsIndirect _ = ⊥

-- control goes where the instruction says
abbrev pub IsDirect : Flow → Type 0
IsDirect Branch = ⊤
IsDirect Jump = ⊤
IsDirect Call = ⊤
IsDirect _ = ⊥

-- one of the instructions from at on begins at this place, and isn't the second half of a pair
abbrev pub BeginsAt : ℕ → ℕ → List Instr → Type 0
BeginsAt place at [] = ⊥
BeginsAt place at (i ∷ rest) = ((place ≡ at) × (IsIndirect i.flow → ⊥)) ⊎ BeginsAt place (at + i.len) rest

-- a direct transfer of the chunk may lead to this place
abbrev pub IsTarget : ℕ → ℕ → ℕ → List Instr → ℕ → Type 0
IsTarget base limit len chunk place =
    ((base ≤ place) × (place < base + len) × BeginsAt place base chunk)
    ⊎ (((place < base) ⊎ (base + len ≤ place)) × IsBundleStart place × (place < limit))

-- every direct transfer among these leads to a target of the chunk
abbrev pub TargetsHold : (ℕ → Type 0) → ℕ → List Instr → Type 0
TargetsHold good at [] = ⊤
TargetsHold good at (i ∷ rest) = (IsDirect i.flow → good (target i at)) × TargetsHold good (at + i.len) rest

-- a valid chunk, by the list of its instructions
pub record IsValid (base limit : ℕ) (code : List ℕ) (chunk : List Instr) : Type 0 where
  pub placed : HasGoodSpan base limit (length code)
  pub reading : IsReading code chunk
  pub crossing : NoneCrosses base chunk
  pub pairs : PairsHold None base chunk
  pub targets : TargetsHold (IsTarget base limit (length code) chunk) base chunk

-- the mark of an instruction, by its flow
abbrev pub mark_by : Flow → ℕ → Mark
mark_by IndirectJump register = After register
mark_by IndirectCall register = After register
mark_by _ register = Plain

-- the marks of a chunk: second halves after their register, other starts plain
abbrev pub marks_of : List Instr → List Mark
marks_of [] = []
marks_of (i ∷ rest) = mark_by i.flow i.reg ∷ (replicate (i.len - 1) Unmarked ++ marks_of rest)
