-- A region by its parts.
use Rattle.std.proofs.Common.{Bool, List}
use Rattle.nc_text.specs.MarkedText.{MarkedText}
use Rattle.nc_gens.specs.Seen.{KeeperState}
use Rattle.nc_list.specs.declared.chunk.Chunk.{Chunk}
use Rattle.nc_acts.specs.declared.acts.Entry.{Entry}
use Rattle.nc_region.specs.Region.{Region}

-- the region of these parts
abbrev pub region_of : MarkedText → List Bool → List Chunk → KeeperState → List Entry → Region
region_of marked made chunks keeper logged =
    record { marked = marked; made = made; chunks = chunks; keeper = keeper; logged = logged }
