-- A text in which a chunk may be put.
use Rattle.std.specs.Prelude.{◌≡◌, Bool, List, length}
use Rattle.nc_text.specs.Places.{limit_of}
use Rattle.nc_text.specs.Ready.{AreReady}
use Rattle.nc_text.specs.MarkedText.{MarkedText}
use Rattle.nc_vet.specs.Chunk.{MarkedChunk, IsValid}
use Rattle.nc_list.specs.declared.chunk.Chunk.{Chunk}
use Rattle.nc_region.specs.Region.{Meets, IsInserted, live_chunk}

-- a valid chunk for the text's limit may be put into its span, which no chunk of the list overlapped and which is ready, and has been
-- entered in the list
pub record HasRoom (marked : MarkedText) (made : List Bool) (old new : List Chunk) (v : MarkedChunk) : Type 0 where
  pub valid : IsValid v
  pub limit : v.limit ≡ limit_of marked.bytes
  pub free : ¬ Meets v.base (length v.code) old
  pub listed : IsInserted old new (live_chunk v)
  pub ready : AreReady made v.base (length v.code)
