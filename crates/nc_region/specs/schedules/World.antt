-- The world of a schedule: the state that the threads, the keeper of the generations and the writer of the text share.
use Rattle.std.specs.Prelude.{◌≡◌, ℕ, ◌+◌, ◌%◌, ◌<◌, ◌≤◌, ◌⊎◌, Bool, true, false, ◌==◌, ◌&&◌, List, [], All, length, replicate, Option}
use Rattle.std.specs.Prelude.{None, IfSome}
use Rattle.std.specs.Prelude.{slice_index, slice_index_or}
use Rattle.nc_decode.specs.Bundles.{IsBundleStart}
use Rattle.nc_text.specs.Places.{limit_of}
use Rattle.nc_text.specs.Machine.{State, IsSafe}
use Rattle.nc_text.specs.Marks.{IsClosed}
use Rattle.nc_text.specs.MarkedText.{MarkedText, unused_text}
use Rattle.nc_gens.specs.declared.view.PassNumbers.{PassNumbers}
use Rattle.nc_gens.specs.declared.view.KeeperNumbers.{KeeperNumbers}
use Rattle.nc_gens.specs.Rule.{first_pass_numbers, first_keeper_numbers}
use Rattle.nc_region.specs.schedules.Spans.{RetiredSpan, IsWithin, IsShut}
use Rattle.nc_region.specs.schedules.Views.{IsView}

-- A seat of a world: the state of its thread, if that is inside the region; the numbers of its pass; whether the seat has
-- left, and whether the keeper has found that it has. The last two are flags because the generations of a world are
-- unbounded, so no number could stand for "left".
pub record Seat : Type 0 where
  pub inside : Option State
  pub pass : PassNumbers
  pub has_left : Bool
  pub found_left : Bool

-- the text with its marks, its bytes as they were before each put since the last serialization, the retired spans, the
-- keeper's numbers (the generation, and a bound for each seat), and the seats
pub record World : Type 0 where
  pub marked : MarkedText
  pub earlier : List (List ℕ)
  pub retired : List RetiredSpan
  pub keeper : KeeperNumbers
  pub seats : List Seat

-- the initial seat: its thread is outside, all numbers are 0, and it hasn't left
abbrev pub first_seat : Seat
first_seat = record { inside = None; pass = first_pass_numbers; has_left = false; found_left = false }

-- the initial world, up to a limit and with this number of seats: all threads are outside, all numbers are 0, the text is
-- unused, no byte was put, no span is retired
abbrev pub first_world : ℕ → ℕ → World
first_world limit seats =
    record {
      marked = unused_text limit;
      earlier = [];
      retired = [];
      keeper = first_keeper_numbers seats;
      seats = replicate seats first_seat;
    }

-- the seat with this number, or `first_seat` if there is none
abbrev pub seat_at : World → ℕ → Seat
seat_at w k = slice_index_or w.seats k first_seat

-- the bytes that a thread may read in the world: a view of its text and the earlier ones
abbrev pub IsViewOf : World → List ℕ → Type 0
IsViewOf w view = IsView w.marked.bytes w.earlier view

-- in every view text and marks are closed, and every retired span is shut
abbrev pub IsSteady : World → Type 0
IsSteady w = (view : List ℕ) → IsViewOf w view → IsClosed view w.marked.marks × All (IsShut view w.marked.marks) w.retired

-- the span consists of whole bundles of the region
pub record IsWhole (text : List ℕ) (span : RetiredSpan) : Type 0 where
  pub start : IsBundleStart span.base
  pub bundles : span.length % 32 ≡ 0
  pub low : 0x10000 ≤ span.base
  pub high : span.base + span.length ≤ limit_of text

-- the spans don't overlap: one ends at or before the start of the other
abbrev pub AreApart : RetiredSpan → RetiredSpan → Type 0
AreApart one other = (one.base + one.length ≤ other.base) ⊎ (other.base + other.length ≤ one.base)

-- the span may be used again: it consists of whole bundles of the region and overlaps no retired span
abbrev pub IsUsable : World → RetiredSpan → Type 0
IsUsable w span = IsWhole w.marked.bytes span × All (AreApart span) w.retired

-- whether two spans are equal in base, length and stamp
abbrev pub is_same_span : RetiredSpan → RetiredSpan → Bool
is_same_span one other = (one.base == other.base) && (one.length == other.length) && (one.stamp == other.stamp)

-- no seat holds the stamp back: for each seat the keeper's bound is at least the stamp, or the keeper has found that the
-- seat has left (Ansel et al. 2011)
abbrev pub HasPassed : World → ℕ → Type 0
HasPassed w stamp = (k : ℕ) → k < length w.seats → (stamp ≤ slice_index w.keeper.bounds k) ⊎ ((seat_at w k).found_left ≡ true)

-- each thread inside is in a state that is safe in every view (`IsSafe`)
abbrev pub AllStandSafe : World → Type 0
AllStandSafe w = All (λ (seat : Seat). IfSome seat.inside (λ now. (view : List ℕ) → IsViewOf w view → IsSafe view now)) w.seats

-- no thread is in the span, except possibly at a bundle start
abbrev pub NoneIsWithin : World → RetiredSpan → Type 0
NoneIsWithin w span = All (λ (seat : Seat). IfSome seat.inside (λ now. ¬ IsWithin span now.place)) w.seats
