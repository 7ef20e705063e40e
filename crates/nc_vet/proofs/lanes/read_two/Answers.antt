use Rattle.std.proofs.Common.{◌+◌, arith}
use Rattle.nc_vet.proofs.lanes.read_two.Goals as goal

pub returns : goal.returns
returns c =
    let code = c.args.code.now in
    let at = c.args.at in
    record {
      first = c.bundle_bits.ensures code at c.requires.start (omega (arith, c.requires.room)) c.run_two.ensures.first;
      second = c.bundle_bits-2.ensures code (at + 32) (omega (arith, c.requires.start)) (omega (arith, c.requires.room)) c.run_two.ensures.second;
    }
