-- Parts of a patch: machinery of the proofs, cited by no public contract.
use Rattle.std.specs.Prelude.{◌≡◌, ◌≢◌, ℕ, ◌+◌, ◌-◌, ◌<◌, ◌≤◌, ◌⊎◌, ⊤, Bool, true, false, List, [], ◌∷◌, ◌++◌, length, Some}
use Rattle.std.specs.Prelude.{IsTrue}
use Rattle.nc_decode.specs.declared.instruction.Instr.{Instr}
use Rattle.nc_decode.specs.declared.instruction.Mark.{Mark}
use Rattle.nc_decode.specs.declared.instruction.Mark.TheVariants.{Unmarked, Plain, After}
use Rattle.nc_decode.specs.Transfers.{is_indirect}
use Rattle.nc_vet.specs.Chunk.{Piece, place}
use Rattle.nc_text.specs.Places.{limit_of, byte_at, instruction_at}
use Rattle.nc_text.specs.Machine.{State}
use Rattle.nc_text.specs.Marks.{IsMarked, IsClosed, mark_at}
use Rattle.nc_text.specs.MarkedText.{MarkedText, IsText, with_span}
use Rattle.nc_text.specs.Ready.{AreReady}
use Rattle.nc_list.specs.declared.chunk.Chunk.{Chunk}
use Rattle.nc_acts.specs.declared.acts.Entry.{Entry}
use Rattle.nc_acts.specs.Log.{Logs}
use Rattle.nc_region.specs.Region.{HoldsValid, IsInChunk}
use Rattle.nc_region.specs.declared.fault.ModifyFault.{ModifyFault}
use Rattle.nc_region.specs.declared.fault.ModifyFault.TheVariants.{BadSpan, NotLive, NotPermitted, Boundaries, PairTouched, BadTarget}
use Rattle.nc_region.specs.Patch.{AreBytesOf, AreInstructions, IsRunOf, IsRun, LeavesPairs, KeepsTargets, log_of_patch}

-- The address lies in a chunk that holds valid code, and has this mark. The text is closed.
pub record LiesInValid (marked : MarkedText) (c : Chunk) (at : ℕ) (mark : Mark) : Type 0 where
  pub whole : IsText marked
  pub holds : HoldsValid marked c
  pub from : IsInChunk c at
  pub mark_is : mark ≡ mark_at marked.marks at

-- an instruction of the chunk begins at the address, or the chunk ends there
pub record Begins (marked : MarkedText) (c : Chunk) (at : ℕ) : Type 0 where
  pub holds : HoldsValid marked c
  pub before : List Piece
  pub rest : List Piece
  pub parts : holds.valid.pieces ≡ before ++ rest
  pub here : c.base + place before ≡ at

-- the list begins with instructions that are, one for one, as long as the new ones
abbrev pub RunsAlong : List Piece → List Piece → Type 0
RunsAlong rest [] = ⊤
RunsAlong [] (n ∷ news) = ⊥
RunsAlong (p ∷ rest) (n ∷ news) = (length p.bytes ≡ length n.bytes) × RunsAlong rest news

-- the new bytes are instructions that are, one for one, as long as those of the chunk from this address on
pub record Along (marked : MarkedText) (c : Chunk) (at : ℕ) (new : List ℕ) : Type 0 where
  pub begins : Begins marked c at
  pub news : List Piece
  pub bytes : AreBytesOf new news
  pub runs : RunsAlong begins.rest news

-- the mark is that of an indirect transfer
abbrev pub is_after : Mark → Bool
is_after Unmarked = false
is_after Plain = false
is_after (After register) = true

-- the new instruction is an indirect transfer exactly if the old one is, and on the same register
abbrev pub KeepsTransfer : (old new : Instr) → Type 0
KeepsTransfer old new =
    (is_indirect new.flow ≡ is_indirect old.flow) × (IsTrue (is_indirect old.flow) → new.reg ≡ old.reg)

-- a lawful patch of a chunk, except for the list of chunks
pub record CanPatch (marked : MarkedText) (c : Chunk) (at : ℕ) (new : List ℕ) : Type 0 where
  pub holds : HoldsValid marked c
  pub run : IsRunOf holds.valid.pieces c.base at new
  pub pairs : LeavesPairs run
  pub targets : KeepsTargets (limit_of marked.bytes) run

-- These bytes have been put at the address in a chunk, which holds valid code. The marks are as before, the text is closed, and
-- the entries of the patch are logged.
pub record HasPutPatch (old new : MarkedText) (logged logged_now : List Entry) (c : Chunk) (at : ℕ) (put : List ℕ) : Type 0 where
  pub bytes : new.bytes ≡ with_span old.bytes (at - 0x10000) put
  pub marks : new.marks ≡ old.marks
  pub whole : IsText new
  pub holds : HoldsValid new c
  pub log : (news : List Piece) → AreBytesOf put news → Logs logged logged_now (log_of_patch old.bytes at news)

-- When a patch of a live chunk is refused with each fault: the first of these conditions that doesn't hold. The new bytes
-- are whole permitted instructions; they fit in the place of instructions of the chunk; they leave its pairs alone; their
-- targets are good.
abbrev pub MayRefuseIn : MarkedText → Chunk → ℕ → List ℕ → ModifyFault → Type 0
MayRefuseIn marked c at new BadSpan = ⊥
MayRefuseIn marked c at new NotLive = ⊥
MayRefuseIn marked c at new NotPermitted = ¬ AreInstructions new
MayRefuseIn marked c at new Boundaries = AreInstructions new × ¬ IsRun marked c at new
MayRefuseIn marked c at new PairTouched = IsRun marked c at new × ¬ ((is : IsRun marked c at new) × LeavesPairs is.run)
MayRefuseIn marked c at new BadTarget =
    ((is : IsRun marked c at new) × LeavesPairs is.run)
    × ¬ ((is : IsRun marked c at new) × LeavesPairs is.run × KeepsTargets (limit_of marked.bytes) is.run)

-- An instruction is to be replaced with these bytes: afterwards the text is closed, and no instruction of a marked state
-- at another place overlaps the span.
pub record IsReplacing (marked : MarkedText) (at : ℕ) (new : List ℕ) : Type 0 where
  pub some : 0 < length new
  pub low : 0x10000 ≤ at
  pub high : at + length new ≤ limit_of marked.bytes
  pub closed : IsClosed (with_span marked.bytes (at - 0x10000) new) marked.marks
  pub apart : (now : State) (i : Instr) → IsMarked marked.marks now → now.place ≢ at
      → instruction_at (with_span marked.bytes (at - 0x10000) new) now.place ≡ Some i
      → (now.place + i.len ≤ at) ⊎ (at + length new ≤ now.place)

-- an instruction of a closed text may be replaced with these bytes (`IsReplacing`), and its places are ready
pub record CanReplace (marked : MarkedText) (made : List Bool) (at : ℕ) (new : List ℕ) : Type 0 where
  pub whole : IsText marked
  pub ready : AreReady made at (length new)
  pub replacing : IsReplacing marked at new

-- the text while an instruction is replaced: F4 at its first byte, and the final bytes outside it
pub record IsInterim (final now : List ℕ) (at len : ℕ) : Type 0 where
  pub as_long : length now ≡ length final
  pub stop : byte_at now at ≡ 0xF4
  pub before : (k : ℕ) → 0x10000 ≤ k → k < at → byte_at now k ≡ byte_at final k
  pub behind : (k : ℕ) → at + len ≤ k → byte_at now k ≡ byte_at final k
