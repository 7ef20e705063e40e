use Rattle.std.proofs.Common.{ap, sym}
use Rattle.nc_list.specs.declared.chunk.ChunkState.{ChunkState}
use Rattle.nc_host.specs.declared.region_results.NcChunk.{NcChunk}
use Rattle.nc_host.specs.Looks.{retired_of, shown_stamp}
use Rattle.nc_host.proofs.region_look.shown.Goals as goal

pub returns-in-Retired : goal.returns-in-Retired
returns-in-Retired c =
    let in-state : ChunkState → NcChunk = λ state. record {
      stamp = shown_stamp state;
      fault = 0;
      base = c.args.chunk.base;
      length = c.args.chunk.length;
      retired = retired_of state;
    } in
    ap in-state (sym c.in-Retired.is)
