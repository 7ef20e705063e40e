use Rattle.std.proofs.Common.{ℕ, ◌+◌, refl, subst, ◌∙◌, arith}
use Rattle.std.proofs.lemmas.List.{length-set}
use Rattle.nc_vet.specs.machinery.Lists.{HasAdded}
use Rattle.nc_vet.proofs.PlaceLists.{none_added, one_added}
use Rattle.nc_vet.proofs.lists.add_usual.Goals as goal

pub loop-i-init : goal.loop-i-init
loop-i-init c = record { added = none_added c.args.list.now c.args.start c.args.from c.args.bits; long = c.told-list }

pub loop-i-preserved : goal.loop-i-preserved
loop-i-preserved c = record {
  added = one_added c.args.list.now c.loop-i.list c.args.start c.args.from c.args.bits c.loop-i.i (c.loop-i.i + 1) c.loop-i.left
      c.lowest_or_last-place.result.1 c.lowest_or_last-place.result.0 (c.args.start + c.loop-i.i) refl refl (omega arith)
      c.lowest_or_last-place.ensures.place c.lowest_or_last-place.ensures.others c.lowest_or_last-place.ensures.fewer
      c.loop-i.invariant.added;
  long = length-set c.loop-i.list (c.args.start + c.loop-i.i) (c.args.from + c.lowest_or_last-place.result.0) ∙ c.loop-i.invariant.long;
}

pub returns : goal.returns
returns c =
    subst (λ (i : ℕ). HasAdded c.args.list.now c.loop-i.list c.args.start c.args.from c.args.bits i c.loop-i.left) {x = c.loop-i.i} {y = 6}
    (omega (arith, c.loop-i-test.false)) c.loop-i.invariant.added
