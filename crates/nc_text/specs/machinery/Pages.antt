-- The bytes and marks in a table of pages, some of which may not be made.
use Rattle.std.specs.Prelude.{ℕ, ◌/◌, ◌%◌, List, map, Option, None, Some, Box, slice_index, slice_index_or}
use Rattle.std.specs.declared.alloc.Global.{Global}
use Rattle.std.specs.Option.{is_some}
use Rattle.std.specs.List.{range_with_len}
use Rattle.nc_decode.specs.declared.instruction.Mark.{Mark}
use Rattle.nc_text.specs.declared.page.Page.{Page}
use Rattle.nc_text.specs.machinery.Masks.{mark_in, unused_masks}
use Rattle.nc_text.specs.MarkedText.{unused_mark}
use Rattle.nc_text.specs.Ready.{TextState}

-- a page of a table, if it is made
abbrev pub Slot : Type 0
Slot = Option (Box Page Global)

-- the byte at place k of a page
abbrev pub byte_on : Page → ℕ → ℕ
byte_on page k = slice_index page.bytes k

-- the mark at place k of a page
abbrev pub mark_on : Page → ℕ → Mark
mark_on page k = mark_in (slice_index_or page.masks (k / 32) unused_masks) (k % 32)

-- the byte at place k of a page that may not be made
abbrev pub byte_if_made : Slot → ℕ → ℕ
byte_if_made None k = 0xF4
byte_if_made (Some page) k = byte_on page.value k

-- the mark at place k of a page that may not be made
abbrev pub mark_if_made : Slot → ℕ → Mark
mark_if_made None k = unused_mark k
mark_if_made (Some page) k = mark_on page.value k

-- the page of place k, counted from the region's first place
abbrev pub page_of : List Slot → ℕ → Slot
page_of pages k = slice_index_or pages (k / 4096) None

-- the byte at place k, counted from the region's first place
abbrev pub byte_of : List Slot → ℕ → ℕ
byte_of pages k = byte_if_made (page_of pages k) (k % 4096)

-- the mark at place k, counted from the region's first place
abbrev pub mark_in_pages : List Slot → ℕ → Mark
mark_in_pages pages k = mark_if_made (page_of pages k) (k % 4096)

-- the text of `size` places in a table of pages: the bytes and marks of its pages, and for a page that isn't made, those of
-- places that no chunk uses
abbrev pub text_of : List Slot → ℕ → TextState
text_of pages size =
    record {
      marked = record { bytes = map (byte_of pages) (range_with_len 0 size); marks = map (mark_in_pages pages) (range_with_len 0 size) };
      made = map is_some pages;
    }
