use Rattle.std.proofs.Common.{arith}
use Rattle.nc_host_acts.proofs.writing.MarkReads.{marked_bit, unmarked_bit}
use Rattle.nc_host_acts.proofs.putting.places_of.Goals as goal

pub returns-then-marked : goal.returns-then-marked
returns-then-marked g c = λ k lt.
    rw c.if-marked.true (marked_bit c.marked_places-places.result k _ (c.marked_places-places.ensures k lt))

pub returns-else-marked : goal.returns-else-marked
returns-else-marked g c = λ k lt.
    rw c.if-marked.false (unmarked_bit c.marked_places-places.result k _ (omega (arith, c.marked_places-places.type_inv)) lt
    (c.marked_places-places.ensures k lt))
