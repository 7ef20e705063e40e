-- The spans of retired chunks, and that each of them is quiet.
use Rattle.std.specs.Prelude.{List, [], ◌∷◌}
use Rattle.nc_text.specs.MarkedText.{MarkedText}
use Rattle.nc_list.specs.declared.chunk.Chunk.{Chunk}
use Rattle.nc_list.specs.declared.chunk.ChunkState.{ChunkState}
use Rattle.nc_list.specs.declared.chunk.ChunkState.TheVariants.{Live, Retired}
pub use Rattle.nc_region.specs.schedules.Spans.{RetiredSpan, IsInSpan, IsWithin, IsQuiet}
use Rattle.nc_base.specs.Each.{Each}

-- these spans, with the chunk's span in front of them if the chunk is retired
abbrev pub with_retired : Chunk → ChunkState → List RetiredSpan → List RetiredSpan
with_retired c Live spans = spans
with_retired c (Retired stamp) spans = record { base = c.base; length = c.length; stamp = stamp } ∷ spans

-- the spans of the retired chunks, in the order of the list
abbrev pub retired_spans : List Chunk → List RetiredSpan
retired_spans [] = []
retired_spans (c ∷ rest) = with_retired c c.state (retired_spans rest)

-- the span of each retired chunk is quiet: all its bytes are F4, and no marked state outside it has a step into it, except
-- to a bundle start
abbrev pub AreQuiet : MarkedText → List Chunk → Type 0
AreQuiet marked chunks = Each (IsQuiet marked.bytes marked.marks) (retired_spans chunks)
