use Rattle.std.proofs.Common.{arith}
use Rattle.nc_lines.proofs.DigitRuns.{none_decoded, run_decoded}
use Rattle.nc_lines.proofs.words.decode_runs.Goals as goal

pub loop-bytes-init : goal.loop-bytes-init
loop-bytes-init c = none_decoded c.args.digits.now c.args.bytes.now

pub overflow_sub-bytes : goal.overflow_sub-bytes
overflow_sub-bytes c = c.loop-bytes.invariant.within

pub loop-bytes-preserved : goal.loop-bytes-preserved
loop-bytes-preserved c =
    let within = c.loop-bytes.invariant.within in
    run_decoded c.args.digits.now c.loop-bytes.bytes c.values_of-high.result c.values_of-low.result c.loop-bytes.done c.type_inv.digits
    (omega arith) (omega arith) c.values_of-high.ensures c.values_of-low.ensures c.if-high-low-ne0.false c.loop-bytes.invariant
