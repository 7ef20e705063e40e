-- What threads fetch is what views have where they stand.
use Rattle.std.proofs.Common.{ℕ, ◌≤◌, List, ◌++◌, inl, inr, arith}
use Rattle.std.specs.Prelude.{IfSome}
use Rattle.std.proofs.lemmas.List.Elements.{All-from_get_or}
use Rattle.std.proofs.lemmas.Option.{IfSome_then}
use Rattle.nc_decode.specs.Bundles.{IsLawfulLimit}
use Rattle.nc_text.proofs.Offered.{IsKnown}
use Rattle.nc_region.specs.schedules.World.{World, Seat, first_seat, first_world, seat_at}
use Rattle.nc_region.specs.schedules.Events.{Event, world_after, AreAllowed}
use Rattle.nc_region.proofs.Offered.{Keeps, keeps_reached, allowed_front}
use Rattle.nc_histories.specs.Whole.{StoodWhole, AllFetchWhole}
use Rattle.nc_histories.proofs.StaysWhole.{IsWholeIn, StaysWhole, whole_between}

-- a thread inside is at a marked place, or in the zone
all_fetch_whole : (w : World) → Keeps w → IsWholeIn w → AllFetchWhole w
all_fetch_whole w keeps whole =
    All-from_get_or
    (λ (seat : Seat). IfSome seat.inside (λ now. 65536 ≤ now.place → StoodWhole w.marked.bytes w.earlier now.place)) w.seats first_seat
    (λ k lt. IfSome_then (seat_at w k).inside
    {P = (IsKnown w.marked.marks)}
    {Q = (λ now. 65536 ≤ now.place → StoodWhole w.marked.bytes w.earlier now.place)}
    (keeps.seats k lt).stands (λ now known low. elim known [ inl m ↦ whole now m | inr z ↦ absurd (omega (arith, low, z.0)) ]))

-- after every event of a schedule that stays whole, threads fetch whole instructions
pub fetch_whole_after : (limit seats : ℕ) (events later : List Event) → IsLawfulLimit limit
    → AreAllowed (first_world limit seats) (events ++ later) → StaysWhole (first_world limit seats) (events ++ later)
    → AllFetchWhole (world_after (first_world limit seats) events)
fetch_whole_after limit seats events later lawful allowed whole =
    all_fetch_whole (world_after (first_world limit seats) events)
    (keeps_reached limit seats events lawful (allowed_front (first_world limit seats) events later allowed))
    (whole_between (first_world limit seats) events later whole)
