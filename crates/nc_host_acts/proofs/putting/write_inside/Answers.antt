use Rattle.std.proofs.Common.{◌<◌, ℕ, length, arith, subst}
use Rattle.nc_acts.specs.Acts.{is_inside}
use Rattle.nc_host_acts.specs.machinery.Writing.{HasPutUpTo}
use Rattle.nc_host_acts.proofs.writing.Bundles.{inside_there}
use Rattle.nc_host_acts.proofs.writing.WriteSteps.{next_fits, put_next}
use Rattle.nc_host_acts.proofs.putting.write_inside.Goals as goal

pub write-count-requires : goal.write-count-requires
write-count-requires c =
    let k = c.loop-k.k in
    next_fits is_inside c.args.at c.args.bytes.now c.args.acts.now c.args.from k c.loop-k.acts c.loop-k.count c.loop-k.invariant
    (omega (arith, c.loop-k-test.true, c.requires.long))
    (inside_there c.args.at k c.requires.start (omega (arith, c.loop-k.auto.k)) (omega (arith, c.loop-k-test.true)))
    c.requires.room

pub loop-k-preserved : goal.loop-k-preserved
loop-k-preserved c =
    let k = c.loop-k.k in
    let is = inside_there c.args.at k c.requires.start (omega (arith, c.loop-k.auto.k)) (omega (arith, c.loop-k-test.true)) in
    let lt : k < length c.args.bytes.now = omega (arith, c.loop-k-test.true, c.requires.long) in
    rw (c.write-count.ensures.acts, c.write-count.ensures.count, c.put.ensures)
    (put_next is_inside c.args.at c.args.bytes.now c.args.acts.now c.args.from k c.loop-k.acts c.loop-k.count c.loop-k.invariant lt is
    (next_fits is_inside c.args.at c.args.bytes.now c.args.acts.now c.args.from k c.loop-k.acts c.loop-k.count c.loop-k.invariant lt is
    c.requires.room))

pub returns : goal.returns
returns c =
    subst (λ (n : ℕ). HasPutUpTo is_inside c.args.at c.args.bytes.now c.args.acts.now c.args.from n c.loop-k.acts c.loop-k.count)
    {x = c.loop-k.k} {y = 32} (omega (arith, c.loop-k-test.false, c.loop-k.auto.k-end)) c.loop-k.invariant
