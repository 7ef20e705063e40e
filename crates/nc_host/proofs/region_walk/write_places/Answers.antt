use Rattle.std.proofs.Common.{get_or, arith, ◌∙◌}
use Rattle.std.proofs.lemmas.List.{length-set}
use Rattle.nc_host.proofs.WrittenMarks.{write_place}
use Rattle.nc_host.proofs.region_walk.write_places.Goals as goal

pub loop-i-preserved : goal.loop-i-preserved
loop-i-preserved c = record {
  len = length-set c.loop-i.buffer c.loop-i.i (get_or c.args.places.now c.loop-i.i 0) ∙ c.loop-i.invariant.len;
  written = write_place c.args.places.now c.args.buffer.now c.loop-i.buffer c.loop-i.i c.loop-i-test.true c.loop-i.invariant.written
      (omega (arith, c.loop-i-test.true, c.requires, c.loop-i.invariant.len));
}
