use Rattle.std.proofs.Common.{◌∙◌, arith}
use Rattle.std.proofs.lemmas.Grind.{elements, common_steps}
use Rattle.std.proofs.lemmas.List.{length-set}
use Rattle.nc_vet.specs.Listed.{listed}
use Rattle.nc_host.proofs.WrittenMarks.{write_mark}
use Rattle.nc_host.proofs.lent_marks.write_marks.Goals as goal

pub mark_number-requires : goal.mark_number-requires
mark_number-requires c = grind (arith, elements)

pub loop-i-preserved : goal.loop-i-preserved
loop-i-preserved c =
    let marks = listed c.args.code.now c.args.marks.now in
    record {
      len = length-set c.loop-i.buffer c.loop-i.i c.mark_number.result ∙ c.loop-i.invariant.len;
      written = rw c.mark_number.ensures
          (write_mark marks c.args.buffer.now c.loop-i.buffer c.loop-i.i c.at.result c.at.ensures (omega (arith, c.loop-i-test.true, c.requires.each))
          c.loop-i.invariant.written (omega (arith, c.loop-i-test.true, c.requires.room, c.loop-i.invariant.len)));
    }

pub returns : goal.returns
returns c = grind (arith, common_steps)
