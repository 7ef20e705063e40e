use Rattle.std.proofs.Common.{ℕ, ◌+◌, ◌-◌, subst, ◌∙◌, arith}
use Rattle.std.proofs.lemmas.List.{length-set}
use Rattle.std.proofs.lemmas.Nat.{ones-le}
use Rattle.nc_vet.specs.machinery.Lists.{HasAdded}
use Rattle.nc_vet.proofs.PlaceLists.{none_added, some_ones, one_added, all_added}
use Rattle.nc_vet.proofs.lists.add_rest.Goals as goal

pub loop-left-init : goal.loop-left-init
loop-left-init c = record {
  added = subst (λ (i : ℕ). HasAdded c.args.list.now c.args.list.now c.args.start c.args.from c.args.bits i c.args.bits) {x = 0}
      {y = c.args.start - c.args.start} (omega arith) (none_added c.args.list.now c.args.start c.args.from c.args.bits);
  low = omega arith;
  high = omega arith;
  few = ones-le 64 c.args.bits (omega (arith, c.ranges.bits));
  long = c.told-list;
}

pub offset_bounds-list-end : goal.offset_bounds-list-end
offset_bounds-list-end c = omega (arith, c.loop-left.invariant.added.fewer, some_ones c.loop-left.left c.loop-left-test.true)

pub bounds-list-end : goal.bounds-list-end
bounds-list-end c = omega (arith, c.loop-left.invariant.added.fewer, some_ones c.loop-left.left c.loop-left-test.true)

pub overflow_add-end : goal.overflow_add-end
overflow_add-end c = omega (arith, c.loop-left.invariant.high, c.loop-left.invariant.few)

pub loop-left-smaller : goal.loop-left-smaller
loop-left-smaller c = omega (arith, c.lowest_or_last-place.ensures.fewer, some_ones c.loop-left.left c.loop-left-test.true)

pub loop-left-preserved : goal.loop-left-preserved
loop-left-preserved c =
    let some = some_ones c.loop-left.left c.loop-left-test.true in
    record {
      added = one_added c.args.list.now c.loop-left.list c.args.start c.args.from c.args.bits (c.loop-left.end - c.args.start)
          (c.loop-left.end + 1 - c.args.start) c.loop-left.left c.lowest_or_last-place.result.1 c.lowest_or_last-place.result.0
          c.loop-left.end (omega (arith, c.loop-left.invariant.low)) (omega (arith, c.loop-left.invariant.low))
          (omega (arith, c.loop-left.invariant.added.fewer, some)) c.lowest_or_last-place.ensures.place
          c.lowest_or_last-place.ensures.others c.lowest_or_last-place.ensures.fewer c.loop-left.invariant.added;
      low = omega arith;
      high = omega (arith, c.loop-left.invariant.added.fewer, some);
      few = c.loop-left.invariant.few;
      long = length-set c.loop-left.list c.loop-left.end (c.args.from + c.lowest_or_last-place.result.0) ∙ c.loop-left.invariant.long;
    }

pub returns : goal.returns
returns c =
    all_added c.args.list.now c.loop-left.list c.args.start c.args.from c.args.bits (c.loop-left.end - c.args.start)
    (subst (λ (n : ℕ). HasAdded c.args.list.now c.loop-left.list c.args.start c.args.from c.args.bits (c.loop-left.end - c.args.start) n)
    c.loop-left-test.false c.loop-left.invariant.added)
