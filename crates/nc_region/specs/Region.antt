-- A region: a text and the chunks in it.
use Rattle.std.specs.Prelude.{◌≡◌, ◌≢◌, ℕ, ◌+◌, ◌-◌, ◌<◌, ◌≤◌, ⊤, Bool, List, length, slice_index}
use Rattle.std.specs.Prelude.{slice_index_or}
use Rattle.nc_decode.specs.declared.instruction.Mark.TheVariants.{Unmarked}
use Rattle.nc_vet.specs.Chunk.{IsValid}
use Rattle.nc_vet.specs.Chunk as vet
use Rattle.nc_decode.specs.Bundles.{IsLawfulLimit}
use Rattle.nc_text.specs.Places.{InRegion, limit_of, byte_at}
use Rattle.nc_text.specs.Marks.{mark_at}
use Rattle.nc_text.specs.MarkedText.{MarkedText, IsText, with_span, unused_mark, unused_text}
use Rattle.nc_text.specs.Ready.{AreReady, GetsReady}
use Rattle.nc_gens.specs.Seen.{KeeperState}
use Rattle.nc_list.specs.declared.chunk.Chunk.{Chunk}
use Rattle.nc_list.specs.declared.chunk.ChunkState.{ChunkState}
use Rattle.nc_list.specs.declared.chunk.ChunkState.TheVariants.{Live, Retired}
pub use Rattle.nc_list.specs.Chunks.{IsAscending, IsAboveAll, IsBelowAll, IsNextChunk, FitsAt, Meets, IsInserted}
use Rattle.nc_acts.specs.declared.acts.Act.{Act}
use Rattle.nc_acts.specs.declared.acts.Entry.{Entry}
use Rattle.nc_region.specs.declared.fault.CreateFault.{CreateFault}
use Rattle.nc_region.specs.declared.fault.CreateFault.TheVariants.{WrongLimit, Occupied, OutOfMemory}
use Rattle.nc_acts.specs.Chunks.{HasGoodSpan}
use Rattle.nc_acts.specs.Log.{acts_in}
use Rattle.nc_base.specs.Each.{Each}

-- A region as contracts see it: bytes and marks, which pages are made, the chunks by ascending base, the keeper, and the
-- entries logged so far, which are acts and serializations
pub record Region : Type 0 where
  pub marked : MarkedText
  pub made : List Bool
  pub chunks : List Chunk
  pub keeper : KeeperState
  pub logged : List Entry

-- the acts that a region has told so far: those of its log, without the serializations
abbrev pub told : Region → List Act
told r = acts_in r.logged

-- the chunk is live, so threads may enter it
abbrev pub IsLive : ChunkState → Type 0
IsLive Live = ⊤
IsLive (Retired stamp) = ⊥

-- the place lies in the chunk's span
abbrev pub IsInChunk : Chunk → ℕ → Type 0
IsInChunk c at = (c.base ≤ at) × (at < c.base + c.length)

-- the chunk's span has the bytes and marks of a valid chunk of its base and length, for the text's limit (`IsValid` of
-- nc_vet)
pub record HoldsValid (marked : MarkedText) (c : Chunk) : Type 0 where
  pub vetted : vet.MarkedChunk
  pub valid : IsValid vetted
  pub base_is : vetted.base ≡ c.base
  pub limit_is : vetted.limit ≡ limit_of marked.bytes
  pub long : length vetted.code ≡ c.length
  pub bytes_are : (at : ℕ) → IsInChunk c at → byte_at marked.bytes at ≡ slice_index vetted.code (at - c.base)
  pub marks_are : (at : ℕ) → IsInChunk c at → mark_at marked.marks at ≡ slice_index_or vetted.marks (at - c.base) Unmarked

-- The invariant of a region: the text is closed and of a permitted size (`IsText`), the chunks ascend without overlap and
-- have good spans, and live ones hold valid code (`HoldsValid`). Outside live chunks all bytes are F4, and outside all chunks
-- only bundle starts are marked.
pub record IsRegion (marked : MarkedText) (chunks : List Chunk) : Type 0 where
  pub whole : IsText marked
  pub ascending : IsAscending 0x10000 chunks
  pub placed : Each (λ (c : Chunk). HasGoodSpan c.base (limit_of marked.bytes) c.length) chunks
  pub live : Each (λ (c : Chunk). IsLive c.state → HoldsValid marked c) chunks
  pub stops : (at : ℕ) → InRegion marked.bytes at → Each (λ (c : Chunk). IsLive c.state → IsInChunk c at → ⊥) chunks
      → byte_at marked.bytes at ≡ 0xF4
  pub unused : (at : ℕ) → InRegion marked.bytes at → Each (λ (c : Chunk). IsInChunk c at → ⊥) chunks
      → mark_at marked.marks at ≡ unused_mark at

-- each place of each chunk of the list is ready; this too is an invariant of a region
abbrev pub AreChunksReady : List Bool → List Chunk → Type 0
AreChunksReady made chunks = Each (λ (c : Chunk). AreReady made c.base c.length) chunks

-- the text is the unused one up to some lawful limit
abbrev pub IsNew : MarkedText → Type 0
IsNew marked = (limit : ℕ) × IsLawfulLimit limit × (marked ≡ unused_text limit)

-- the list's entry for a vetted chunk, which is live
abbrev pub live_chunk : vet.MarkedChunk → Chunk
live_chunk v = record { base = v.base; length = length v.code; state = Live }

-- The region after a chunk was created: its span has the chunk's code and marks, and the chunk is in the list. Pages of
-- the span may have been made. All else is as before, except for the log.
pub record IsCreated (old new : Region) (v : vet.MarkedChunk) : Type 0 where
  pub bytes : new.marked.bytes ≡ with_span old.marked.bytes (v.base - 0x10000) v.code
  pub marks : new.marked.marks ≡ with_span old.marked.marks (v.base - 0x10000) v.marks
  pub chunks : IsInserted old.chunks new.chunks (live_chunk v)
  pub ready : GetsReady old.made new.made v.base (length v.code)
  pub others : new ≡ record old {
    marked = new.marked;
    made = new.made;
    chunks = new.chunks;
    logged = new.logged;
  }

-- the region after a refused creation: as before, except that pages of the span may have been made if memory ran out
abbrev pub IsRefused : Region → Region → vet.MarkedChunk → CreateFault → Type 0
IsRefused old new v WrongLimit = new ≡ old
IsRefused old new v Occupied = new ≡ old
IsRefused old new v OutOfMemory = (new ≡ record old { made = new.made }) × GetsReady old.made new.made v.base (length v.code)

-- when `create` may return each fault: `WrongLimit` if the limits differ; `Occupied` if they agree and the span overlaps a
-- chunk; `OutOfMemory` only if they agree and it overlaps none
abbrev pub MayRefuse : Region → vet.MarkedChunk → CreateFault → Type 0
MayRefuse r v WrongLimit = v.limit ≢ limit_of r.marked.bytes
MayRefuse r v Occupied = (v.limit ≡ limit_of r.marked.bytes) × Meets v.base (length v.code) r.chunks
MayRefuse r v OutOfMemory = (v.limit ≡ limit_of r.marked.bytes) × ¬ Meets v.base (length v.code) r.chunks
