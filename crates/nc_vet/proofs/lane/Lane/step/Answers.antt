use Rattle.std.proofs.Common.{sym}
use Rattle.nc_vet.proofs.BundleStates.{bundle_size, bundle_byte}
use Rattle.nc_vet.proofs.lane.Lane.step.Goals as goal

pub returns : goal.returns
returns c =
    let code = c.args.code.now in
    c.read.ensures _ (bundle_size code c.args.at c.requires.room) (sym (bundle_byte code c.args.at c.args.i c.requires.place))
