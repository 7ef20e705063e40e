use Rattle.std.proofs.Common.{ℕ, ◌<◌, length, take, get_or, subst, arith, rules}
use Rattle.std.proofs.lemmas.Grind.{common_steps}
use Rattle.std.proofs.lemmas.List.{get_or-take, length-take}
use Rattle.nc_vet.specs.machinery.Judged.{IsGoodEnd}
use Rattle.nc_vet.specs.machinery.Lists.{AreBelow}
use Rattle.nc_vet.proofs.PlaceLists.{zeros_below, judged_by}
use Rattle.nc_vet.proofs.lists.judged_by_lists.Goals as goal

pub loop-n-init : goal.loop-n-init
loop-n-init c = record {
  judged = λ n lt. absurd (omega (arith, lt));
  within = omega arith;
  small = zeros_below 256 _ (omega (arith, c.requires.each, c.requires.some));
}

pub overflow_add-n : goal.overflow_add-n
overflow_add-n c = omega (arith, c.loop-n.invariant.within, c.requires.each, c.requires.fits)

pub list_transfers-count-requires-clause-small : goal.list_transfers-count-requires-clause-small
list_transfers-count-requires-clause-small c =
    subst (λ (bound : ℕ). AreBelow bound c.loop-n.list) c.requires.each c.loop-n.invariant.small

pub are_good-requires-clause-small : goal.are_good-requires-clause-small
are_good-requires-clause-small c = grind (arith, common_steps)

pub loop-n-preserved : goal.loop-n-preserved
loop-n-preserved c =
    let count = c.list_transfers-count.result.0 in
    let list = c.list_transfers-count.new.list in
    let every : (i : ℕ) → i < length (take count list)
    → IsGoodEnd c.args.base c.args.limit c.args.code.now c.args.bundles.now (get_or (take count list) i 0)
    = search (rules, c.are_good.ensures) in
    let good : (i : ℕ) → i < count → IsGoodEnd c.args.base c.args.limit c.args.code.now c.args.bundles.now (get_or list i 0)
    = λ i lt. subst (IsGoodEnd c.args.base c.args.limit c.args.code.now c.args.bundles.now) (get_or-take count list i 0 lt)
    (every i (omega (arith, lt, length-take count list, c.list_transfers-count.ensures.room))) in
    record {
      judged = judged_by c.args.base c.args.limit c.args.code.now c.args.bundles.now c.list_transfers-count.new.list
          c.list_transfers-count.result.0 c.loop-n.n c.list_transfers-count.result.1 c.list_transfers-count.ensures.within
          c.requires.apart c.list_transfers-count.ensures.listed good c.loop-n.invariant.judged;
      within = c.list_transfers-count.ensures.within;
      small = λ i. omega (arith, c.list_transfers-count.ensures.small i, c.requires.each);
    }

pub returns : goal.returns
returns c = record { judged = c.loop-n.invariant.judged; within = c.loop-n.invariant.within }

pub returns-then-not-are_good : goal.returns-then-not-are_good
returns-then-not-are_good c = record { judged = c.loop-n.invariant.judged; within = c.loop-n.invariant.within }
