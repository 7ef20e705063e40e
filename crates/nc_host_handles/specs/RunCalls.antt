-- The acts of a chunk of a region as runs: their number, and when they are refused.
use Rattle.std.specs.Prelude.{◌≡◌, ℕ, ◌+◌, ◌*◌, ◌/◌, ◌<◌, List, Some, None}
use Rattle.nc_list.specs.declared.chunk.Chunk.{Chunk}
use Rattle.nc_region.specs.Deletion.{HasLive}
use Rattle.nc_acts.specs.Log.{log_of_create, log_of_delete}
use Rattle.nc_host_acts.specs.declared.act.NcAct.{NcAct}
use Rattle.nc_host_acts.specs.Runs.{runs_of_create, runs_of_delete, HasRuns}
use Rattle.nc_host_handles.specs.declared.fault.RunsFault.{RunsFault}
use Rattle.nc_host_handles.specs.declared.fault.RunsFault.TheVariants.{NoChunk, NoRoom}
use Rattle.nc_host_handles.specs.RegionHandle.{RegionHandleState, IsLiveAt}
use Rattle.nc_host_handles.specs.Lent.{bytes_of_span}

-- the number of runs for a span of this length: two for each bundle, and two more
abbrev pub runs_of : ℕ → ℕ
runs_of len = 2 * (len / 32) + 2

-- The buffer begins with the runs of this chunk's creation, for its bytes in the region, and they stand for the log of
-- that creation: for each bundle one run for its bytes after the first, then the serialization and the marks, then for each
-- bundle one run for its first byte. `Run` of nc_host_acts says what a run is.
abbrev pub AreCreationRuns : RegionHandleState → Chunk → List NcAct → List NcAct → ℕ → Type 0
AreCreationRuns h c old new count =
    let code = bytes_of_span h.region.marked.bytes c.base c.length in
    (count ≡ runs_of c.length) × HasRuns old new count c.base code (runs_of_create c.base code) (log_of_create c.base code)

-- The buffer begins with the runs of this chunk's deletion, by the region's marks, and they stand for the log of that
-- deletion: for each bundle one run for F4 at its marked places, then the serialization, then for each bundle one run for F4
-- at the others, then the stamp.
abbrev pub AreDeletionRuns : RegionHandleState → Chunk → List NcAct → List NcAct → ℕ → Type 0
AreDeletionRuns h c old new count =
    (count ≡ runs_of c.length) × HasRuns old new count c.base (bytes_of_span h.region.marked.bytes c.base c.length)
    (runs_of_delete h.region.marked.marks c.base c.length) (log_of_delete h.region.marked.marks c.base c.length)

-- when the runs of a creation are refused: no live chunk has this base, or the buffer is too short for them
abbrev pub MayRefuseCreationRuns : RegionHandleState → ℕ → ℕ → RunsFault → Type 0
MayRefuseCreationRuns h base room NoChunk = ¬ HasLive h.region.chunks base
MayRefuseCreationRuns h base room (NoRoom wanted) =
    (c : Chunk) × IsLiveAt h.region.chunks base c × (room < runs_of c.length) × (wanted ≡ runs_of c.length)

-- when the runs of a deletion are refused: no deletion is under way, or the buffer is too short for them
abbrev pub MayRefuseDeletionRuns : RegionHandleState → ℕ → RunsFault → Type 0
MayRefuseDeletionRuns h room NoChunk = h.begun ≡ None
MayRefuseDeletionRuns h room (NoRoom wanted) =
    (c : Chunk) × (h.begun ≡ Some c) × (room < runs_of c.length) × (wanted ≡ runs_of c.length)
