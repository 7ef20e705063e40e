-- Taking chunks that are due out of the list and unmarking their spans.
use Rattle.std.specs.Prelude.{◌≡◌, ℕ, List, ◌++◌}
use Rattle.nc_text.specs.MarkedText.{MarkedText}
use Rattle.nc_list.specs.declared.chunk.Chunk.{Chunk}
use Rattle.nc_acts.specs.declared.acts.Entry.{Entry}
use Rattle.nc_acts.specs.Log.{Logs, only_acts}
use Rattle.nc_region.specs.Region.{IsRegion}
use Rattle.nc_region.specs.Deletion.{freed, kept, unmarked, unmarkings}

-- Chunks that are due have been taken out of a region's list, which left the others, and their spans are still marked. Of the front
-- of the list all that are due were taken, of the back none.
pub record AreTakenOut (least : ℕ) (marked : MarkedText) (left taken : List Chunk) : Type 0 where
  pub front : List Chunk
  pub back : List Chunk
  pub region : IsRegion marked (front ++ back)
  pub left_are : left ≡ kept least front ++ back
  pub taken_are : taken ≡ freed least front

-- The spans of these chunks have been unmarked, in this order: what became of the marks, and the entries logged.
pub record AreUnmarked (chunks : List Chunk) (was now : MarkedText) (logged logged_now : List Entry) : Type 0 where
  pub marked : now ≡ unmarked was chunks
  pub logs : Logs logged logged_now (only_acts (unmarkings chunks))

-- The first of a region's chunks that are due have been taken out and unmarked, which left a region with the others.
pub record AreFreed (least : ℕ) (old new : List Chunk) (was now : MarkedText) (logged logged_now : List Entry) : Type 0 where
  pub done : List Chunk
  pub stay : kept least new ≡ kept least old
  pub parted : freed least old ≡ done ++ freed least new
  pub unmarks : AreUnmarked done was now logged logged_now
  pub region : IsRegion now new

-- All chunks of a region that are due have been taken out and unmarked, which left a region with the others.
pub record AllFreed (least : ℕ) (old new : List Chunk) (was now : MarkedText) (logged logged_now : List Entry) : Type 0 where
  pub chunks : new ≡ kept least old
  pub region : IsRegion now new
  pub unmarks : AreUnmarked (freed least old) was now logged logged_now
