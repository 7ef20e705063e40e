-- Properties of every view of a world between two calls of a region.
use Rattle.std.specs.Prelude.{◌≡◌, ℕ, ◌+◌, ◌<◌, List, Some}
use Rattle.nc_decode.specs.declared.instruction.Instr.{Instr}
use Rattle.nc_decode.specs.declared.instruction.Mark.{Mark}
use Rattle.nc_decode.specs.declared.instruction.Mark.TheVariants.{Unmarked}
use Rattle.nc_text.specs.Places.{byte_at, instruction_at}
use Rattle.nc_text.specs.Machine.{State}
use Rattle.nc_text.specs.Marks.{IsMarked, mark_at}
use Rattle.nc_list.specs.declared.chunk.Chunk.{Chunk}
use Rattle.nc_region.specs.schedules.World.{World, IsViewOf}
use Rattle.nc_base.specs.Each.{Each}
use Rattle.nc_region.specs.Region.{IsLive, IsInChunk}

-- no instruction at a marked place overlaps another marked place
abbrev pub NoneOverlaps : List ℕ → List Mark → Type 0
NoneOverlaps text marks =
    (now : State) (i : Instr) (k : ℕ) → IsMarked marks now → instruction_at text now.place ≡ Some i → 0 < k → k < i.len
    → mark_at marks (now.place + k) ≡ Unmarked

-- the place lies in no live chunk
abbrev pub IsFree : List Chunk → ℕ → Type 0
IsFree chunks at = Each (λ (c : Chunk). IsLive c.state → ¬ IsInChunk c at) chunks

-- each marked place that lies in no live chunk holds F4
abbrev pub AreStopped : List ℕ → List Mark → List Chunk → Type 0
AreStopped text marks chunks = (now : State) → IsMarked marks now → IsFree chunks now.place → byte_at text now.place ≡ 0xF4

-- In every view no instruction at a marked place overlaps another marked place, and marked places outside live chunks hold
-- F4.
pub record ViewsKeep (w : World) (chunks : List Chunk) : Type 0 where
  pub parted : (view : List ℕ) → IsViewOf w view → NoneOverlaps view w.marked.marks
  pub stopped : (view : List ℕ) → IsViewOf w view → AreStopped view w.marked.marks chunks
