use Rattle.std.proofs.Common.{ℕ, ◌+◌, ◌-◌, ◌/◌, map, arith}
use Rattle.std.proofs.lemmas.Grind.{common_steps}
use Rattle.nc_list.proofs.Searching.{has_first, part_below, part_above}
use Rattle.nc_list.proofs.parts.part_for.Goals as goal

pub loop-high-init : goal.loop-high-init
loop-high-init g c = grind (arith, common_steps)

pub loop-high-preserved-then-first-at : goal.loop-high-preserved-then-first-at
loop-high-preserved-then-first-at g c =
    let so = c.loop-high.invariant in
    let middle : ℕ = c.loop-high.low + (c.loop-high.high - c.loop-high.low) / 2 in
    let has = has_first g.T.Part.items c.args.parts.now middle c.first.result c.index-parts-middle.result c.requires.have (omega (arith, c.loop-high-test.true, so.order.1))
    (omega (arith, c.loop-high-test.true, so.order.1)) c.index-parts-middle.is c.first.ensures in
    record {
      order = omega (arith, c.loop-high-test.true, so.order.1);
      below = part_below (map g.T.Part.items c.args.parts.now) middle c.first.result c.args.at c.requires.ascending has c.if-first-at.true;
      above = so.above;
    }

pub loop-high-preserved : goal.loop-high-preserved
loop-high-preserved g c =
    let so = c.loop-high.invariant in
    let middle : ℕ = c.loop-high.low + (c.loop-high.high - c.loop-high.low) / 2 in
    let has = has_first g.T.Part.items c.args.parts.now middle c.first.result c.index-parts-middle.result c.requires.have (omega (arith, c.loop-high-test.true, so.order.1))
    (omega (arith, c.loop-high-test.true, so.order.1)) c.index-parts-middle.is c.first.ensures in
    record {
      order = omega (arith, c.loop-high-test.true, so.order.1);
      below = so.below;
      above = part_above (map g.T.Part.items c.args.parts.now) middle c.first.result c.args.at c.requires.ascending has
          (omega (arith, c.if-first-at.false));
    }

pub returns : goal.returns
returns g c = grind (arith, common_steps)
