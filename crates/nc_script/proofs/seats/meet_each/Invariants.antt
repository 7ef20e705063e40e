-- The passes of the seats so far met the keeper.
use Rattle.nc_script.specs.machinery.Session.{AreSeated}
use Rattle.nc_script.specs.machinery.Seats.{HaveMetBelow, IsOnlyKeeper}
use Rattle.nc_script.proofs.seats.meet_each.Given as goal

abbrev pub invariant-loop-seat : goal.invariant-loop-seat
invariant-loop-seat g l =
    AreSeated l.initial.region.keeper.table l.passes
    × HaveMetBelow l.seat l.initial.passes l.initial.region.keeper.numbers.bounds l.passes l.region.keeper.numbers.bounds
    × IsOnlyKeeper l.initial.region l.region
