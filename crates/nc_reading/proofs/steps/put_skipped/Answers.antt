use Rattle.std.proofs.Common.{◌+◌, ◌-◌, ◌++◌, List, ℕ, ap, ◌∙◌, arith, replicate}
use Rattle.std.proofs.lemmas.List.{length-replicate, replicate_more}
use Rattle.nc_reading.specs.declared.class.Class.{Class}
use Rattle.nc_reading.specs.declared.class.Class.TheVariants.{Inside, Skipped}
use Rattle.nc_reading.proofs.ReadSteps.{one_put}
use Rattle.nc_reading.proofs.steps.put_skipped.Goals as goal

pub loop-k-init : goal.loop-k-init
loop-k-init c = λ before after n e. e ∙ ap (λ (m : ℕ). before ++ (replicate m Inside ++ after)) {x = c.args.count} {y = c.args.count - 0} (omega arith)

pub loop-k-preserved : goal.loop-k-preserved
loop-k-preserved c = λ before after n e.
    let k = c.loop-k.k in
    one_put before (replicate k Skipped) after _ c.args.from k c.args.count Skipped n (length-replicate k Skipped) (omega arith) (c.loop-k.invariant before after n e)
    ∙ ap (λ (z : List Class). before ++ (z ++ (replicate (c.args.count - (k + 1)) Inside ++ after))) (replicate_more k Skipped)

pub returns : goal.returns
returns c = λ before after n e. c.loop-k.invariant before after n e
    ∙ ap (λ (m : ℕ). before ++ (replicate m Skipped ++ (replicate (c.args.count - m) Inside ++ after))) {x = c.loop-k.k} {y = c.args.count} (omega arith)
    ∙ ap (λ (m : ℕ). before ++ (replicate c.args.count Skipped ++ (replicate m Inside ++ after))) {x = c.args.count - c.args.count} {y = 0} (omega arith)
