-- A region after a chunk was deleted, and after retired chunks were reclaimed.
use Rattle.std.specs.Prelude.{◌≡◌, ℕ, ◌+◌, ◌-◌, ◌^◌, ◌<◌, ◌≤◌, List, [], ◌∷◌, ◌++◌, length, map, replicate}
use Rattle.std.specs.Prelude.{Contains, Some, slice_get, slice_set}
use Rattle.nc_gens.specs.declared.view.WordStep.{WordStep}
use Rattle.nc_gens.specs.Seen.{HasRaised, HasLooked, least_number}
use Rattle.nc_gens.specs.Progress.{HavePassed, IsBeforeLook}
use Rattle.nc_text.specs.MarkedText.{MarkedText, with_span, without_marks}
use Rattle.nc_list.specs.declared.chunk.Chunk.{Chunk}
use Rattle.nc_list.specs.declared.chunk.ChunkState.TheVariants.{Live, Retired}
pub use Rattle.nc_list.specs.Chunks.{is_due, freed, kept}
use Rattle.nc_acts.specs.declared.acts.Act.{Act}
use Rattle.nc_acts.specs.declared.acts.Act.TheVariants.{UnmarkSpan, Look}
use Rattle.nc_region.specs.declared.fault.DeleteFault.{DeleteFault}
use Rattle.nc_region.specs.declared.fault.DeleteFault.TheVariants.{NoChunk, GensFull}
use Rattle.nc_acts.specs.Acts.{acts_of_delete}
use Rattle.nc_acts.specs.Log.{Logs, only_acts, log_of_delete}
use Rattle.nc_region.specs.Region.{Region, IsLive, told}

-- some live chunk of the list has this base
abbrev pub HasLive : List Chunk → ℕ → Type 0
HasLive chunks base = (c : Chunk) × Contains chunks c × IsLive c.state × (c.base ≡ base)

-- The region after the live chunk with this base was deleted: its bytes are F4, it is retired at its index in the list,
-- and its marks stay. The stamp is the next generation, at most 2^62, and is the keeper's generation now. All else is as
-- before. The acts told and entries logged are those of a deletion.
pub record IsDeleted (old new : Region) (base stamp : ℕ) : Type 0 where
  pub index : ℕ
  pub chunk : Chunk
  pub listed : slice_get old.chunks index ≡ Some chunk
  pub live : chunk.state ≡ Live
  pub base_is : chunk.base ≡ base
  pub room : old.keeper.numbers.generation < 2 ^ 62
  pub stamp_is : stamp ≡ old.keeper.numbers.generation + 1
  pub bytes : new.marked.bytes ≡ with_span old.marked.bytes (base - 0x10000) (replicate chunk.length 0xF4)
  pub chunks : new.chunks ≡ slice_set old.chunks index (record chunk { state = Retired stamp })
  pub keeper : HasRaised old.keeper new.keeper
  pub others : new ≡ record old {
    marked = record old.marked { bytes = new.marked.bytes };
    chunks = new.chunks;
    keeper = new.keeper;
    logged = new.logged;
  }
  pub acts : told new ≡ told old ++ acts_of_delete old.marked.marks base chunk.length
  pub log : Logs old.logged new.logged (log_of_delete old.marked.marks base chunk.length)

-- when `delete` may return each fault: `NoChunk` if no live chunk has this base; `GensFull` if one has and the generation
-- is 2^62
abbrev pub MayRefuseDelete : Region → ℕ → DeleteFault → Type 0
MayRefuseDelete r base NoChunk = ¬ HasLive r.chunks base
MayRefuseDelete r base GensFull = HasLive r.chunks base × (r.keeper.numbers.generation ≡ 2 ^ 62)

-- the text with the spans of these chunks unmarked, except for bundle starts
abbrev pub unmarked : MarkedText → List Chunk → MarkedText
unmarked marked [] = marked
unmarked marked (c ∷ rest) = unmarked (without_marks marked c.base c.length) rest

-- one unmarking for each of these chunks
abbrev pub unmarkings : List Chunk → List Act
unmarkings chunks = map (λ (c : Chunk). UnmarkSpan c.base c.length) chunks

-- The region after a reclaim: the keeper has looked, and exactly the retired chunks with a stamp of at most its
-- `least_number` have been removed from the list; `count` is their number. Their spans are unmarked except for bundle starts; no
-- byte changed, and all else is as before. The acts are one look and then one unmarking for each freed chunk, in
-- ascending order, with no serialization.
pub record IsReclaimed (old new : Region) (count : ℕ) : Type 0 where
  pub looked : HasLooked old.keeper new.keeper
  pub chunks : new.chunks ≡ kept (least_number new.keeper.numbers) old.chunks
  pub count_is : count ≡ length (freed (least_number new.keeper.numbers) old.chunks)
  pub marked : new.marked ≡ unmarked old.marked (freed (least_number new.keeper.numbers) old.chunks)
  pub bytes : new.marked.bytes ≡ old.marked.bytes
  pub others : new ≡ record old { marked = new.marked; chunks = new.chunks; keeper = new.keeper; logged = new.logged }
  pub acts : told new ≡ told old ++ Look ∷ unmarkings (freed (least_number new.keeper.numbers) old.chunks)
  pub log : Logs old.logged new.logged (only_acts (Look ∷ unmarkings (freed (least_number new.keeper.numbers) old.chunks)))

-- each retired chunk that is in the list has a stamp above this number
abbrev pub AreFreedUpTo : ℕ → List Chunk → Type 0
AreFreedUpTo stamp chunks = (c : Chunk) (drawn : ℕ) → Contains chunks c → c.state ≡ Retired drawn → stamp < drawn

-- The progress of a look that has led to this region. For each stamp drawn so far: if at some moment before the look each seat had
-- checked in since the stamp or had left, then no chunk with a stamp of at most that one is in the list.
abbrev pub HasProgressed : Region → Type 0
HasProgressed r = (stamp : ℕ) (known : List WordStep) → stamp ≤ r.keeper.numbers.generation
    → IsBeforeLook (length r.keeper.numbers.bounds) known r.keeper.trail
    → HavePassed (length r.keeper.numbers.bounds) stamp known → AreFreedUpTo stamp r.chunks
