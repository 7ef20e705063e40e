use Rattle.nc_host_acts.proofs.writing.StopPlaces.{Stopping}
use Rattle.nc_host_acts.proofs.putting.write_places.Given as goal

abbrev pub invariant-loop-left : goal.invariant-loop-left
invariant-loop-left l = Stopping l.places l.left l.at l.initial.acts l.from l.acts l.count

abbrev pub decreases-loop-left : goal.decreases-loop-left
decreases-loop-left l = l.left
