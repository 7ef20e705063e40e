-- Instructions that are fetched byte by byte: each of them stood whole at its place.
use Rattle.std.specs.Prelude.{◌≡◌, ℕ, ◌+◌, ◌<◌, ◌≤◌, List, ◌∷◌, All, Contains, Some, IfSome}
use Rattle.nc_decode.specs.declared.instruction.Instr.{Instr}
use Rattle.nc_text.specs.Places.{byte_at, instruction_at}
use Rattle.nc_region.specs.schedules.Views.{IsView}
use Rattle.nc_region.specs.schedules.World.{World, Seat}

-- An instruction that a view of the text and of the earlier ones has at the address stood there in one of these texts, with
-- the bytes that the view has.
abbrev pub StoodWhole : List ℕ → List (List ℕ) → ℕ → Type 0
StoodWhole text earlier at =
    (view : List ℕ) (i : Instr) → IsView text earlier view → instruction_at view at ≡ Some i
    → (one : List ℕ) × Contains (text ∷ earlier) one × (instruction_at one at ≡ Some i)
    × ((k : ℕ) → k < i.len → byte_at one (at + k) ≡ byte_at view (at + k))

-- Wherever a thread is in the region, the instruction that it fetches, in any view, stood there whole in one of the texts
-- since the last serialization.
abbrev pub AllFetchWhole : World → Type 0
AllFetchWhole w =
    All (λ (seat : Seat). IfSome seat.inside (λ now. 0x10000 ≤ now.place → StoodWhole w.marked.bytes w.earlier now.place)) w.seats
