use Rattle.std.proofs.Common.{ℕ, get_or, subst, arith, inl, inr, rules}
use Rattle.std.proofs.lemmas.Bool.{cases_lt}
use Rattle.nc_vet.specs.machinery.Judged.{IsGoodEnd}
use Rattle.nc_vet.proofs.lists.are_good.Goals as goal

pub loop-i-init : goal.loop-i-init
loop-i-init c = λ j lt. absurd (omega (arith, lt))

pub loop-i-preserved : goal.loop-i-preserved
loop-i-preserved c =
    let good : IsGoodEnd c.args.base c.args.limit c.args.code.now c.args.bundles.now (get_or c.args.places.now c.loop-i.i 0)
    = search (rules, c.is_transfer_good.ensures) in
    λ j lt. elim (cases_lt j c.loop-i.i) [
      | inl earlier ↦ c.loop-i.invariant j earlier
      | inr here ↦
          subst (λ (i : ℕ). IsGoodEnd c.args.base c.args.limit c.args.code.now c.args.bundles.now (get_or c.args.places.now i 0))
          {x = c.loop-i.i} {y = j} (omega (arith, here, lt)) good
    ]

pub returns : goal.returns
returns c = λ t i lt. c.loop-i.invariant i (omega (arith, lt, c.loop-i-test.false))
