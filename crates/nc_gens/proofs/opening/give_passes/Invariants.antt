use Rattle.std.proofs.Common.{◌≡◌, []}
use Rattle.nc_gens.specs.machinery.Views.{giving_view}
use Rattle.nc_gens.specs.Seen.{new_passes}
use Rattle.nc_gens.proofs.opening.give_passes.Given as goal

abbrev pub invariant-loop-seat : goal.invariant-loop-seat
invariant-loop-seat l = (l.keeper.table_id ≡ l.fn.keeper.table_id) × (l.keeper.me ≡ (giving_view l.seats l.seat, []))
    × (l.passes.items ≡ new_passes l.fn.keeper.table_id l.seat)
