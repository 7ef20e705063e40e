use Rattle.std.proofs.Common.{◌∙◌, arith}
use Rattle.nc_vet.proofs.GoodOffsets.{by_offset}
use Rattle.nc_vet.proofs.lists.is_transfer_good.Goals.{then-is_near, else-is_near}
use Rattle.nc_vet.proofs.lists.is_transfer_good.Goals as goal

pub returns-then-not-is_near : goal.returns-then-not-is_near
returns-then-not-is_near c = λ t.
    let good = c.is_good_offset.ensures c.args.code.now c.args.bundles.now c.requires.each c.requires.starts t in
    record {
      short = λ is. by_offset c.args.base c.args.limit c.args.code.now c.args.bundles.now c.args.at _ c.short_target-offset.result
          c.short_target-offset.ensures good;
      near = λ is. absurd (omega (arith, is, c.is_near.ensures.short c.if-not-is_near.true));
    }

pub returns : goal.returns
returns c = λ t.
    let good = c.is_good_offset-2.ensures c.args.code.now c.args.bundles.now c.requires.each c.requires.starts t in
    elim c.if-is_near.branch [
      | then-is_near w ↦ record {
        short = λ is. absurd (omega (arith, is, c.is_near-2.ensures.near w.if-is_near.true));
        near = λ is. by_offset c.args.base c.args.limit c.args.code.now c.args.bundles.now c.args.at _ c.if-is_near.offset
            (w.offset-is ∙ c.offsets-short.ensures.near) good;
      }
      | else-is_near w ↦ record {
        short = λ is. by_offset c.args.base c.args.limit c.args.code.now c.args.bundles.now c.args.at _ c.if-is_near.offset
            (w.offset-is ∙ c.offsets-short.ensures.short) good;
        near = λ is. absurd (omega (arith, is, c.is_near-2.ensures.short w.if-is_near.false));
      }
    ]
