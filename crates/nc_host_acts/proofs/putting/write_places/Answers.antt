use Rattle.std.proofs.Common.{arith}
use Rattle.std.proofs.lemmas.Grind.{common_steps}
use Rattle.nc_host_acts.proofs.writing.StopPlaces.{stop_fits, stopping_none, stopping_next, stopping_all}
use Rattle.nc_host_acts.proofs.putting.write_places.Goals as goal

pub loop-left-init : goal.loop-left-init
loop-left-init c = stopping_none c.args.places c.args.at c.args.acts.now c.args.from

pub lowest_place-k-requires : goal.lowest_place-k-requires
lowest_place-k-requires c = grind (arith, common_steps)

pub overflow_add-at : goal.overflow_add-at
overflow_add-at c = grind (arith, common_steps)

pub write-count-requires : goal.write-count-requires
write-count-requires c =
    let low = c.lowest_place-k.ensures in
    stop_fits _ _ _ _ _ _ _ c.loop-left.invariant c.lowest_place-k.result.0 low.place low.set low.below c.requires.room

pub loop-left-smaller : goal.loop-left-smaller
loop-left-smaller c = grind (arith, common_steps)

pub loop-left-preserved : goal.loop-left-preserved
loop-left-preserved c =
    let low = c.lowest_place-k.ensures in
    rw (c.write-count.ensures.acts, c.write-count.ensures.count, c.put.ensures)
    (stopping_next _ _ _ _ _ _ _ c.loop-left.invariant c.lowest_place-k.result.0 low.place low.set low.below c.requires.room
    _ low.cleared low.others)

pub returns : goal.returns
returns c = stopping_all _ _ _ _ _ _ _ (omega (arith, c.loop-left-test.false)) c.loop-left.invariant
