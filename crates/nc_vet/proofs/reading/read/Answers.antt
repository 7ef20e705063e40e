use Rattle.std.proofs.Common.{arith}
use Rattle.nc_vet.proofs.BitReading.{read_front, read_bits}
use Rattle.nc_vet.proofs.reading.read.Goals as goal

pub returns-then-len-code-clause-read : goal.returns-then-len-code-clause-read
returns-then-len-code-clause-read c =
    read_bits c.args.code.now c.in-Some.front.bundles.items c.type_inv.code c.in-Some.ensures.told
    (omega (arith, c.if-len-code.true, c.len.ensures, c.in-Some.front.bundles.ok.0))

pub stuck_from-requires-clause-read : goal.stuck_from-requires-clause-read
stuck_from-requires-clause-read c =
    read_front c.args.code.now c.in-Some.front.bundles.items c.in-Some.front.end c.type_inv.code c.requires.bundles c.in-Some.ensures
