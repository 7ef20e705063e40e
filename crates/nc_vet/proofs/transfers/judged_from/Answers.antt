use Rattle.std.proofs.Common.{◌*◌, ◌∙◌, ap, arith, rules}
use Rattle.std.specs.Int.{bit_at}
use Rattle.nc_decode.specs.declared.bundle.Bundle.{Bundle}
use Rattle.nc_vet.specs.machinery.Judged.{AreGoodShorts, AreGoodNears}
use Rattle.nc_vet.proofs.BitPlaces.{judged_two}
use Rattle.nc_vet.proofs.transfers.judged_from.Goals as goal

pub loop-n-preserved : goal.loop-n-preserved
loop-n-preserved c =
    let shorts : AreGoodShorts c.args.base c.args.limit c.args.code.now c.args.bundles.now (32 * c.loop-n.n) c.both-shorts.result = search
    (rules, c.shorts_good.ensures) in
    let nears : AreGoodNears c.args.base c.args.limit c.args.code.now c.args.bundles.now (32 * c.loop-n.n) c.both-nears.result = search
    (rules, c.nears_good.ensures) in
    record {
      judged = judged_two c.args.base c.args.limit c.args.code.now c.args.bundles.now c.loop-n.n c.both-shorts.result c.both-nears.result
          c.both-shorts.ensures.first (λ k lt. c.both-shorts.ensures.second k lt
          ∙ ap (λ (w : Bundle). bit_at w.shorts k) c.bundle_at-second.ensures)
          c.both-nears.ensures.first (λ k lt. c.both-nears.ensures.second k lt
          ∙ ap (λ (w : Bundle). bit_at w.nears k) c.bundle_at-second.ensures)
          shorts nears c.loop-n.invariant.judged;
      within = omega (arith, c.loop-n-test.true);
    }
