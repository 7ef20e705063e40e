use Rattle.std.proofs.Common.{arith}
use Rattle.nc_vet.proofs.BundleStates.{all_read}
use Rattle.nc_vet.proofs.lane.run_one.Goals as goal

pub loop-i-init : goal.loop-i-init
loop-i-init c = c.new-lane.ensures _

pub returns : goal.returns
returns c =
    all_read c.args.code.now c.args.at c.loop-i.i _ _ c.requires.room (omega (arith, c.loop-i-test.false, c.loop-i.auto.i-end)) c.loop-i.invariant
