-- The deletion of a chunk that is live at its base.
use Rattle.std.proofs.Common.{◌+◌, ◌<◌, ◌∙◌, ap}
use Rattle.std.specs.Prelude.{Some}
use Rattle.std.proofs.lemmas.Option.{slice_get-get_or}
use Rattle.nc_list.specs.declared.chunk.Chunk.{Chunk}
use Rattle.nc_region.specs.Region.{Region}
use Rattle.nc_region.specs.Deletion.{IsDeleted}
use Rattle.nc_region.proofs.Offered.{deleted_region, deleted_at}
use Rattle.nc_host_handles.specs.RegionHandle.{IsLiveAt}

-- a chunk that is live at its base can be deleted unless the generation is the last one
abbrev pub deleted_there : (old : Region) (c : Chunk) (live : IsLiveAt old.chunks c.base c)
    → old.keeper.numbers.generation < 4611686018427387904
    → IsDeleted old (deleted_region old live.0.0 c) c.base (old.keeper.numbers.generation + 1)
deleted_there old c live room = deleted_at old live.0.0 c (slice_get-get_or old.chunks live.0.0 c live.0.1 ∙ ap Some live.0.2) live.1 room
