use Rattle.std.proofs.Common.{rules, arith, sym, length, ◌≡◌, ◌≤◌, ◌+◌, ◌*◌, get_or}
use Rattle.nc_decode.specs.Bits.{no_bits}
use Rattle.nc_vet.proofs.RunStates.{told_few, moved, stopped}
use Rattle.nc_vet.proofs.lanes.read_bundles.Goals as goal

pub returns-then-whole-few : goal.returns-then-whole-few
returns-then-whole-few c =
    let w = told_few c.args.code.now c.loop-bundles.bundles.items c.read_four-more.result c.extend_from_slice.new.self.items
    (32 * c.len-in-loop-bundles-2.result) c.min-few.result c.whole_front-whole.result c.loop-bundles.invariant.told (search rules)
    (omega (arith, c.min-few.ensures)) (omega (arith, c.len-in-loop-bundles-2.ensures, c.loop-bundles.bundles.ok.0)) (omega arith)
    c.read_four-more.ensures (search (rules, c.extend_from_slice.ensures.items)) c.whole_front-whole.ensures.within
    c.whole_front-whole.ensures.whole in
    let at : 32 * c.len-then-whole-few.result
    ≡ 32 * c.len-in-loop-bundles-2.result + 32 * c.whole_front-whole.result = omega (
      arith,
      w.0.1,
      c.len-in-loop-bundles-2.ensures,
      c.loop-bundles.bundles.ok.0,
      c.len-then-whole-few.ensures,
      c.extend_from_slice.new.self.ok.0,
    ) in
    let fits : 32 * c.len-then-whole-few.result + 32 ≤ length c.args.code.now = omega (arith, at, c.if-whole-few.true, c.min-few.ensures) in
    stopped c.args.code.now c.extend_from_slice.new.self.items
    (get_or c.read_four-more.result c.whole_front-whole.result no_bits)
    (32 * c.len-then-whole-few.result) c.last_end-end-then-whole-few.result w.0.0
    (omega (arith, c.len-then-whole-few.ensures, c.extend_from_slice.new.self.ok.0))
    fits
    (moved c.args.code.now _ _ _ (sym at) (c.read_four-more.ensures c.whole_front-whole.result
    (omega (arith, c.if-whole-few.true, c.min-few.ensures)) (omega (arith, at, fits))))
    c.last_end-end-then-whole-few.ensures.low c.last_end-end-then-whole-few.ensures.near c.last_end-end-then-whole-few.ensures.ended

pub loop-bundles-preserved : goal.loop-bundles-preserved
loop-bundles-preserved c =
    let w = told_few c.args.code.now c.loop-bundles.bundles.items c.read_four-more.result c.extend_from_slice.new.self.items
    (32 * c.len-in-loop-bundles-2.result) c.min-few.result c.whole_front-whole.result c.loop-bundles.invariant.told (search rules)
    (omega (arith, c.min-few.ensures)) (omega (arith, c.len-in-loop-bundles-2.ensures, c.loop-bundles.bundles.ok.0)) (omega arith)
    c.read_four-more.ensures (search (rules, c.extend_from_slice.ensures.items)) c.whole_front-whole.ensures.within
    c.whole_front-whole.ensures.whole in
    record {
      within = omega (
        arith,
        w.0.1,
        w.1,
        c.min-few.ensures,
        c.extend_from_slice.new.self.ok.0,
        c.loop-bundles.bundles.ok.0,
        c.loop-bundles-test.true,
        c.len-in-loop-bundles-3.ensures,
      );
      told = w.0.0;
    }
