-- Regions that calls lead to, one after the other.
use Rattle.std.specs.Prelude.{◌≡◌, ℕ, ⊤, List, length, Option, None, Some}
use Rattle.atomic_table.specs.Seated.{TableId}
use Rattle.nc_vet.specs.Chunk as vet
use Rattle.nc_text.specs.Places.{limit_of}
use Rattle.nc_region.specs.declared.fault.CreateFault.{CreateFault}
use Rattle.nc_region.specs.Region.{Region, IsCreated, IsRefused, MayRefuse, Meets}
use Rattle.nc_region.specs.Patch.{IsPatch, IsPatched}
use Rattle.nc_region.specs.Deletion.{IsDeleted, IsReclaimed}

-- One call made the new region of the old one, as the call's contract says: it created a valid chunk, patched or deleted one, or
-- reclaimed. A refused creation may have made pages. Every other refusal, and every call that only reads, leaves the region as it was.
pub data IsOneCall (old new : Region) : Type 0 where
  OfCreate : (v : vet.MarkedChunk) → vet.IsValid v → v.limit ≡ limit_of old.marked.bytes → ¬ Meets v.base (length v.code) old.chunks
      → IsCreated old new v → IsOneCall old new
  OfRefusedCreate : (v : vet.MarkedChunk) (fault : CreateFault) → MayRefuse old v fault → IsRefused old new v fault → IsOneCall old new
  OfPatch : (at : ℕ) (bytes : List ℕ) → IsPatch old at bytes → IsPatched old new at bytes → IsOneCall old new
  OfDelete : (base stamp : ℕ) → IsDeleted old new base stamp → IsOneCall old new
  OfReclaim : (count : ℕ) → IsReclaimed old new count → IsOneCall old new

-- The region was reached from the first one by calls, one after the other, possibly none (`IsOneCall`).
pub data IsReachedFrom (first : Region) : Region → Type 0 where
  AtFirst : IsReachedFrom first first
  AfterCall : {old new : Region} → IsReachedFrom first old → IsOneCall old new → IsReachedFrom first new

-- the region was reached from the first one, if a first one is given
abbrev pub IsUnderRule : Option Region → Region → Type 0
IsUnderRule None r = ⊤
IsUnderRule (Some first) r = IsReachedFrom first r

-- a region behind a lock as contracts see it: its table of generations, and the region that the lock was made with
pub record SharedRegion : Type 0 where
  pub table : TableId
  pub first : Region
