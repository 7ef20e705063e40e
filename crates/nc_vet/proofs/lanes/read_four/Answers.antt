use Rattle.std.proofs.Common.{◌+◌, arith}
use Rattle.nc_vet.proofs.RunStates.{four_told, moved}
use Rattle.nc_vet.proofs.lanes.read_four.Goals as goal

pub returns : goal.returns
returns c =
    let code = c.args.code.now in
    let at = c.args.at in
    let room = c.requires.room in
    let start = c.requires.start in
    let whole = c.requires.bundles in
    four_told code at _ _ _ _
    (c.bundle_bits.ensures code at start (omega (arith, room, start, whole)) c.run_four.ensures.first)
    (λ lt. moved code _ (at + 32) _ (omega (arith, lt, start, whole, c.min.ensures))
    (c.bundle_bits-2.ensures code _ (omega (arith, start, whole)) (omega arith) c.run_four.ensures.second))
    (λ lt. moved code _ (at + 64) _ (omega (arith, lt, start, whole, c.min-2.ensures))
    (c.bundle_bits-3.ensures code _ (omega (arith, start, whole)) (omega arith) c.run_four.ensures.third))
    (λ lt. moved code _ (at + 96) _ (omega (arith, lt, start, whole, c.min-3.ensures))
    (c.bundle_bits-4.ensures code _ (omega (arith, start, whole)) (omega arith) c.run_four.ensures.fourth))
