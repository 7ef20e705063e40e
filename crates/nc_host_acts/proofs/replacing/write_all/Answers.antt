use Rattle.std.proofs.Common.{arith, refl}
use Rattle.nc_region.specs.Patch.{any_place}
use Rattle.nc_host_acts.proofs.writing.WriteSteps.{next_fits, put_next}
use Rattle.nc_host_acts.proofs.writing.Replacements.{all_puts}
use Rattle.nc_host_acts.proofs.replacing.write_all.Goals as goal

pub write-count-requires : goal.write-count-requires
write-count-requires c =
    next_fits any_place c.args.at c.args.bytes.now c.args.acts.now c.args.from c.loop-i.i c.loop-i.acts c.loop-i.count c.loop-i.invariant
    c.loop-i-test.true refl (omega (arith, c.requires.room, all_puts c.args.at c.args.bytes.now))

pub loop-i-preserved : goal.loop-i-preserved
loop-i-preserved c =
    let fits = next_fits any_place c.args.at c.args.bytes.now c.args.acts.now c.args.from c.loop-i.i c.loop-i.acts c.loop-i.count
    c.loop-i.invariant c.loop-i-test.true refl (omega (arith, c.requires.room, all_puts c.args.at c.args.bytes.now)) in
    rw (c.write-count.ensures.acts, c.write-count.ensures.count, c.put.ensures)
    (put_next any_place c.args.at c.args.bytes.now c.args.acts.now c.args.from c.loop-i.i c.loop-i.acts c.loop-i.count c.loop-i.invariant
    c.loop-i-test.true refl fits)
