-- A patch: some instructions of a live chunk replaced by others of the same lengths, while threads may be running.
use Rattle.std.specs.Prelude.{◌≡◌, ℕ, ◌+◌, ◌-◌, ◌<◌, ⊤, Bool, true, ◌==◌, ◌&&◌, List, [], ◌∷◌, ◌++◌, length, map}
use Rattle.std.specs.Prelude.{Contains, IsTrue, if◌then◌else◌}
use Rattle.nc_decode.specs.Bundles.{IsInOneBundle}
use Rattle.nc_decode.specs.Transfers.{is_direct, is_indirect, target}
use Rattle.nc_vet.specs.Chunk.{Piece, code_of, place, AreSpelled, IsTarget}
use Rattle.nc_text.specs.Places.{limit_of, byte_at}
use Rattle.nc_text.specs.MarkedText.{MarkedText, with_span}
use Rattle.nc_list.specs.declared.chunk.Chunk.{Chunk}
use Rattle.nc_acts.specs.declared.acts.Act.{Act}
use Rattle.nc_acts.specs.declared.acts.Act.TheVariants.{Put}
use Rattle.nc_acts.specs.declared.acts.Entry.{Entry}
use Rattle.nc_acts.specs.declared.acts.Entry.TheVariants.{Did, Serialized}
use Rattle.nc_region.specs.declared.fault.ModifyFault.{ModifyFault}
use Rattle.nc_region.specs.declared.fault.ModifyFault.TheVariants.{BadSpan, NotLive, NotPermitted, Boundaries, PairTouched, BadTarget}
use Rattle.nc_acts.specs.Acts.{puts_where}
use Rattle.nc_acts.specs.Log.{only_acts}
use Rattle.nc_region.specs.Region.{Region, IsLive, IsInChunk, HoldsValid}

-- there is at least one byte, and all bytes lie in one bundle
abbrev pub IsPatchSpan : ℕ → ℕ → Type 0
IsPatchSpan at len = (0 < len) × IsInOneBundle at len

-- the place lies in this live chunk of the list
abbrev pub IsHeldBy : List Chunk → ℕ → Chunk → Type 0
IsHeldBy chunks at c = Contains chunks c × IsLive c.state × IsInChunk c at

-- the place lies in some live chunk
abbrev pub IsHeld : List Chunk → ℕ → Type 0
IsHeld chunks at = (c : Chunk) × IsHeldBy chunks at c

-- the bytes are the concatenation of these whole permitted instructions
pub record AreBytesOf (bytes : List ℕ) (pieces : List Piece) : Type 0 where
  pub spelled : AreSpelled pieces
  pub parts : bytes ≡ code_of pieces

-- the bytes are a concatenation of whole permitted instructions
abbrev pub AreInstructions : List ℕ → Type 0
AreInstructions bytes = (pieces : List Piece) × AreBytesOf bytes pieces

-- the length of each of these instructions
abbrev pub lengths : List Piece → List ℕ
lengths pieces = map (λ p. length p.bytes) pieces

-- The pieces begin at `base`. The new bytes are whole permitted instructions that fit in the place of consecutive pieces
-- from `at` on, one for one, each as long as the piece.
pub record IsRunOf (pieces : List Piece) (base at : ℕ) (new : List ℕ) : Type 0 where
  pub before : List Piece
  pub old : List Piece
  pub after : List Piece
  pub parts : pieces ≡ before ++ (old ++ after)
  pub here : base + place before ≡ at
  pub news : List Piece
  pub bytes : AreBytesOf new news
  pub as_long : lengths old ≡ lengths news

-- the chunk is valid, and the new bytes fit in the place of some of its instructions (`IsRunOf`)
pub record IsRun (marked : MarkedText) (c : Chunk) (at : ℕ) (new : List ℕ) : Type 0 where
  pub holds : HoldsValid marked c
  pub run : IsRunOf holds.valid.pieces c.base at new

-- The list begins with an indirect transfer. In a valid chunk this is the second half of a pair, and the instruction
-- directly before it is the mask.
abbrev pub GoesOnIndirectly : List Piece → Type 0
GoesOnIndirectly [] = ⊥
GoesOnIndirectly (p ∷ rest) = IsTrue (is_indirect p.instr.flow)

-- the new instruction, in the place of the old one before `rest`, leaves pairs intact: it has the same bytes if the old
-- one is the mask of a pair; and it is an indirect transfer (a jump or a call) exactly if the old one is, and on the same
-- register (Yee et al. 2009, nacljmp)
pub record SparesPair (old : Piece) (rest : List Piece) (new : Piece) : Type 0 where
  pub mask : GoesOnIndirectly rest → new.bytes ≡ old.bytes
  pub transfer : is_indirect new.instr.flow ≡ is_indirect old.instr.flow
  pub register : IsTrue (is_indirect old.instr.flow) → new.instr.reg ≡ old.instr.reg

-- each new instruction leaves pairs intact in the place of the old one of the same index (`SparesPair`)
abbrev pub SparesPairs : (old news : List Piece) → Type 0
SparesPairs old [] = ⊤
SparesPairs [] (n ∷ news) = ⊤
SparesPairs (o ∷ rest) (n ∷ news) = SparesPair o rest n × SparesPairs rest news

-- each direct transfer among these instructions, the first of which is at this address, goes to a good address
abbrev pub GoWell : (ℕ → Type 0) → ℕ → List Piece → Type 0
GoWell good at [] = ⊤
GoWell good at (p ∷ rest) = (IsTrue (is_direct p.instr.flow) → good (target p.instr at)) × GoWell good (at + length p.bytes) rest

-- the new instructions leave the pairs that they touch intact
abbrev pub LeavesPairs : {pieces : List Piece} {base at : ℕ} {new : List ℕ} → IsRunOf pieces base at new → Type 0
LeavesPairs run = SparesPairs (run.old ++ run.after) run.news

-- each direct transfer of the new instructions goes to a target that all of the pieces allow for this limit (`IsTarget`)
abbrev pub KeepsTargets : {pieces : List Piece} {base at : ℕ} {new : List ℕ} → ℕ → IsRunOf pieces base at new → Type 0
KeepsTargets {pieces} {base} {at} limit run = GoWell (IsTarget base limit pieces) at run.news

-- The new bytes fit in the place of whole instructions of a live chunk. `FitsBesidePairs` adds that they leave its pairs
-- alone, and `IsPatch` that they lie in one bundle and have good targets.
abbrev pub Fits : Region → ℕ → List ℕ → Type 0
Fits r at new = (c : Chunk) × IsHeldBy r.chunks at c × IsRun r.marked c at new

-- the new bytes fit in the place of whole instructions of a live chunk and leave its pairs alone
abbrev pub FitsBesidePairs : Region → ℕ → List ℕ → Type 0
FitsBesidePairs r at new = (c : Chunk) × IsHeldBy r.chunks at c × ((is : IsRun r.marked c at new) × LeavesPairs is.run)

-- A lawful patch: the new bytes, at least one, lie in one bundle and take the place of whole instructions of a live chunk,
-- each as long as the new one. They leave its pairs alone (`SparesPair`), and their direct transfers go where those of a
-- valid chunk may (Yee et al. 2009, C7).
abbrev pub IsPatch : Region → ℕ → List ℕ → Type 0
IsPatch r at new =
    IsPatchSpan at (length new)
    × ((c : Chunk) × IsHeldBy r.chunks at c
    × ((is : IsRun r.marked c at new) × LeavesPairs is.run × KeepsTargets (limit_of r.marked.bytes) is.run))

-- A patch is refused for the first of these conditions that doesn't hold: there is at least one byte, and all are in one
-- bundle; they begin in a live chunk (`Held`); they are whole permitted instructions; they fit in the place of instructions
-- of the chunk (`Fit`); they also leave pairs alone (`Beside`); their targets, too, are good (`Lawful`).
abbrev pub IsRefusalBy : (Held Fit Beside Lawful : Type 0) → ℕ → List ℕ → ModifyFault → Type 0
IsRefusalBy Held Fit Beside Lawful at new BadSpan = ¬ IsPatchSpan at (length new)
IsRefusalBy Held Fit Beside Lawful at new NotLive = IsPatchSpan at (length new) × ¬ Held
IsRefusalBy Held Fit Beside Lawful at new NotPermitted = IsPatchSpan at (length new) × Held × ¬ AreInstructions new
IsRefusalBy Held Fit Beside Lawful at new Boundaries = IsPatchSpan at (length new) × Held × AreInstructions new × ¬ Fit
IsRefusalBy Held Fit Beside Lawful at new PairTouched = IsPatchSpan at (length new) × Fit × ¬ Beside
IsRefusalBy Held Fit Beside Lawful at new BadTarget = IsPatchSpan at (length new) × Beside × ¬ Lawful

-- When `modify` may return each fault: it names the first of these conditions that doesn't hold. There is at least one
-- byte, and all are in one bundle (`BadSpan`); they begin in a live chunk (`NotLive`); they are whole permitted instructions
-- (`NotPermitted`); they fit in the place of instructions of the chunk (`Boundaries`); they leave pairs alone
-- (`PairTouched`); their targets are good (`BadTarget`).
abbrev pub MayRefusePatch : Region → ℕ → List ℕ → ModifyFault → Type 0
MayRefusePatch r at new fault = IsRefusalBy (IsHeld r.chunks at) (Fits r at new) (FitsBesidePairs r at new) (IsPatch r at new) at new fault

-- The region after a patch: it has the new bytes at their place. All else is as before, except for the log.
pub record IsPatched (old new : Region) (at : ℕ) (bytes : List ℕ) : Type 0 where
  pub patched : new.marked.bytes ≡ with_span old.marked.bytes (at - 0x10000) bytes
  pub others : new ≡ record old { marked = record old.marked { bytes = new.marked.bytes }; logged = new.logged }

-- the text already has these bytes from this address on
abbrev pub stands_there : List ℕ → ℕ → List ℕ → Bool
stands_there text at [] = true
stands_there text at (byte ∷ rest) = (byte_at text at == byte) && stands_there text (at + 1) rest

-- a test that every place passes
abbrev pub any_place : ℕ → Bool
any_place at = true

-- The acts that replace one instruction: F4 is put at its first byte, then its further bytes in ascending order, then its
-- first byte. An instruction of one byte takes one put.
abbrev pub acts_of_instruction : ℕ → List ℕ → List Act
acts_of_instruction at [] = []
acts_of_instruction at (byte ∷ []) = Put at byte ∷ []
acts_of_instruction at (byte ∷ next ∷ rest) = Put at 0xF4 ∷ (puts_where any_place (at + 1) (next ∷ rest) ++ Put at byte ∷ [])

-- The acts of a patch: each instruction whose bytes aren't there already is replaced, in ascending order. An instruction
-- of one byte takes one put; for a longer one F4 is put at its first byte, then its further bytes in ascending order, then
-- its first byte (Ansel et al. 2011).
abbrev pub acts_of_patch : List ℕ → ℕ → List Piece → List Act
acts_of_patch text at [] = []
acts_of_patch text at (p ∷ rest) =
    (if stands_there text at p.bytes then [] else acts_of_instruction at p.bytes) ++ acts_of_patch text (at + length p.bytes) rest

-- The log of replacing one instruction: its acts, and for an instruction of more than one byte two serializations, after F4 is
-- put at its first byte and after its further bytes are put.
abbrev pub log_of_instruction : ℕ → List ℕ → List Entry
log_of_instruction at [] = []
log_of_instruction at (byte ∷ []) = Did (Put at byte) ∷ []
log_of_instruction at (byte ∷ next ∷ rest) =
    Did (Put at 0xF4) ∷ Serialized ∷ (only_acts (puts_where any_place (at + 1) (next ∷ rest)) ++ (Serialized ∷ Did (Put at byte) ∷ []))

-- the log of a patch: its acts, and for each replaced instruction of more than one byte two serializations, after F4 is put
-- and before its first byte is put
abbrev pub log_of_patch : List ℕ → ℕ → List Piece → List Entry
log_of_patch text at [] = []
log_of_patch text at (p ∷ rest) =
    (if stands_there text at p.bytes then [] else log_of_instruction at p.bytes) ++ log_of_patch text (at + length p.bytes) rest
