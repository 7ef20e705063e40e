-- A patch in a script: some instructions of a live chunk replaced by others of the same lengths.
use Rattle.std.specs.Prelude.{ℕ, ◌+◌, ◌-◌, ◌<◌, ◌≤◌, List, length, Contains, if◌then◌else◌}
use Rattle.nc_decode.specs.declared.instruction.Mark.{Mark}
use Rattle.nc_vet.specs.Chunk.{IsValid}
use Rattle.nc_text.specs.MarkedText.{with_span}
use Rattle.nc_region.specs.Patch.{IsPatchSpan, IsRunOf, LeavesPairs, KeepsTargets, IsRefusalBy}
use Rattle.nc_region.specs.declared.fault.ModifyFault.{ModifyFault}
use Rattle.nc_script.specs.Script.{Script, ScriptChunk, ScriptChunkState, Live, Retired, covers}

-- a live chunk of the list, with this base and these bytes, contains the place
pub record HoldsPlace (chunks : List ScriptChunk) (at base : ℕ) (bytes : List ℕ) : Type 0 where
  pub listed : Contains chunks (record { base = base; state = Live bytes })
  pub from : base ≤ at
  pub to : at < base + length bytes

-- the place lies in some live chunk
abbrev pub LiesInLive : List ScriptChunk → ℕ → Type 0
LiesInLive chunks at = (base : ℕ) × (bytes : List ℕ) × HoldsPlace chunks at base bytes

-- the new bytes fit in the place of whole instructions of a live chunk, which is valid for the script's limit
pub record Replaces (script : Script) (at : ℕ) (new : List ℕ) : Type 0 where
  pub base : ℕ
  pub bytes : List ℕ
  pub holds : HoldsPlace script.chunks at base bytes
  pub marks : List Mark
  pub valid : IsValid (record { base = base; limit = script.limit; code = bytes; marks = marks })
  pub run : IsRunOf valid.pieces base at new

-- the new bytes fit in the place of whole instructions of a live chunk, and leave pairs alone
abbrev pub ReplacesBesidePairs : Script → ℕ → List ℕ → Type 0
ReplacesBesidePairs script at new = (r : Replaces script at new) × LeavesPairs r.run

-- A lawful patch of a script's chunk: the new bytes, at least one, are in one bundle and fit in the place of whole
-- instructions of a live chunk, one for one. They leave pairs alone, and their direct transfers go where those of a valid
-- chunk may.
abbrev pub IsLawfulPatch : Script → ℕ → List ℕ → Type 0
IsLawfulPatch script at new =
    IsPatchSpan at (length new) × ((r : Replaces script at new) × LeavesPairs r.run × KeepsTargets script.limit r.run)

-- the fault with which a patch of a script's chunk is refused
abbrev pub IsRefusedPatch : Script → ℕ → List ℕ → ModifyFault → Type 0
IsRefusedPatch script at new fault =
    IsRefusalBy (LiesInLive script.chunks at) (Replaces script at new) (ReplacesBesidePairs script at new) (IsLawfulPatch script at new)
    at new fault

-- a live chunk with these bytes from this place of it on; a retired one is unchanged
abbrev pub patched_state : ℕ → List ℕ → ScriptChunkState → ScriptChunkState
patched_state start new (Live bytes) = Live (with_span bytes start new)
patched_state start new (Retired length stamp) = Retired length stamp

-- the chunk that contains the address, with these bytes from there on; any other chunk is unchanged
abbrev pub patched_at : ℕ → List ℕ → ScriptChunk → ScriptChunk
patched_at at new c = if covers c at then record c { state = patched_state (at - c.base) new c.state } else c
