use Rattle.nc_region.proofs.chunks.Pieces.{valid_chunk_is_closed}
use Rattle.nc_region.proofs.law.law_of_chunks.Goals as goal

pub returns : goal.returns
returns c = valid_chunk_is_closed
