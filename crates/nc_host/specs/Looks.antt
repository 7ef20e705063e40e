-- A region as a host reads it: numbers for a chunk and for a place.
use Rattle.std.specs.Prelude.{ℕ}
use Rattle.nc_text.specs.Marks.{mark_at}
use Rattle.nc_text.specs.Places.{byte_at}
use Rattle.nc_list.specs.declared.chunk.Chunk.{Chunk}
use Rattle.nc_list.specs.declared.chunk.ChunkState.{ChunkState}
use Rattle.nc_list.specs.declared.chunk.ChunkState.TheVariants.{Live, Retired}
use Rattle.nc_region.specs.Region.{Region}
use Rattle.nc_host.specs.declared.region_results.NcChunk.{NcChunk}
use Rattle.nc_host.specs.declared.region_results.NcPlace.{NcPlace}
use Rattle.nc_host.specs.Shown.{mark_number}

-- 1 for a retired chunk, 0 for a live one
abbrev pub retired_of : ChunkState → ℕ
retired_of Live = 0
retired_of (Retired stamp) = 1

-- a retired chunk's stamp; 0 for a live one
abbrev pub shown_stamp : ChunkState → ℕ
shown_stamp Live = 0
shown_stamp (Retired stamp) = stamp

-- a chunk of a region as numbers: base, length, 1 if it is retired, and its stamp or 0
abbrev pub shown_chunk : Chunk → NcChunk
shown_chunk c = record { stamp = shown_stamp c.state; fault = 0; base = c.base; length = c.length; retired = retired_of c.state }

-- no chunk, for a fault of this number: all other fields are 0
abbrev pub no_chunk : ℕ → NcChunk
no_chunk fault = record { stamp = 0; fault = fault; base = 0; length = 0; retired = 0 }

-- the byte and the mark at an address of a region, as numbers
abbrev pub shown_place : Region → ℕ → NcPlace
shown_place r at = record { fault = 0; byte = byte_at r.marked.bytes at; mark = mark_number (mark_at r.marked.marks at) }

-- no place, for a fault of this number: all other fields are 0
abbrev pub no_place : ℕ → NcPlace
no_place fault = record { fault = fault; byte = 0; mark = 0 }
