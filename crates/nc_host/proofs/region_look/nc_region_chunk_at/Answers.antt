use Rattle.std.proofs.Common.{rules}
use Rattle.nc_host.proofs.region_look.nc_region_chunk_at.Goals as goal

pub returns-in-Some-chunk-clause-chunk : goal.returns-in-Some-chunk-clause-chunk
returns-in-Some-chunk-clause-chunk c = search rules
