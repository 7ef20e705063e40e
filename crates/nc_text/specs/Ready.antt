-- The pages of a text that are made (allocated), and the places that are ready because of them.
use Rattle.std.specs.Prelude.{◌≡◌, ℕ, ◌+◌, ◌-◌, ◌/◌, ◌<◌, ◌⊎◌, Bool, true, false, List, slice_index_or, replicate}
use Rattle.nc_text.specs.MarkedText.{MarkedText}

-- a text as contracts see it: its bytes and marks, and for each page of 4096 places from 00010000 on, whether it is made
-- (allocated)
pub record TextState : Type 0 where
  pub marked : MarkedText
  pub made : List Bool

-- the page of the place is made
abbrev pub IsReady : List Bool → ℕ → Type 0
IsReady made at = slice_index_or made ((at - 0x10000) / 4096) false ≡ true

-- each of the `len` places from `at` on is ready; an empty span always is
abbrev pub AreReady : List Bool → ℕ → ℕ → Type 0
AreReady made at len = (k : ℕ) → k < len → IsReady made (at + k)

-- the pages of a text up to this limit, their number rounded up, before any is made
abbrev pub unmade_pages : ℕ → List Bool
unmade_pages limit = replicate ((limit - 0x10000 + 4095) / 4096) false

-- some place of the span is on the same page as `place`
pub record SharesPage (at len place : ℕ) : Type 0 where
  pub offset : ℕ
  pub within : offset < len
  pub same_page : (at + offset - 0x10000) / 4096 ≡ (place - 0x10000) / 4096

-- Each newly made page overlaps the span. A page that was made stays made.
pub record GetsReady (old new : List Bool) (at len : ℕ) : Type 0 where
  pub kept : (place : ℕ) → IsReady old place → IsReady new place
  pub needed : (place : ℕ) → IsReady new place → IsReady old place ⊎ SharesPage at len place
