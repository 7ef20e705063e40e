use Rattle.std.proofs.Common.{◌<◌, ◌≤◌, ℕ, List, [], ◌∷◌, length, get_or, arith, sym, subst, ◌∙◌}
use Rattle.std.proofs.lemmas.List.{take_all}
use Rattle.nc_gens.specs.declared.view.WordStep.TheVariants.{TookWord}
use Rattle.nc_gens.specs.Seen.{PassState, KeeperSteps}
use Rattle.nc_histories.specs.Steps.{word_steps}
use Rattle.nc_host_handles.specs.RegionHandle.{meetings}
use Rattle.nc_host_handles.proofs.Attended.{attended_next, attended_all}
use Rattle.nc_host_handles.proofs.attending.attend.Goals as goal

pub loop-i-preserved : goal.loop-i-preserved
loop-i-preserved c =
    let lt : c.loop-i.i < length c.loop-i.passes = omega (arith, c.loop-i-test.true, c.loop-i.invariant.as_many) in
    let table = c.loop-i.invariant.tables c.loop-i.i c.index-passes-i.result lt in
    attended_next c.args.gens.now c.args.region.now c.args.passes.now c.loop-i.region c.attend_one.new.region c.loop-i.passes c.loop-i.i
    c.attend_one.new.pass c.index-passes-i.result c.loop-i.invariant lt
    (c.attend_one.ensures.same.0 ∙ table, c.attend_one.ensures.same.1)
    c.attend_one.ensures.others c.attend_one.ensures.table c.attend_one.ensures.generation c.attend_one.ensures.raised
    (subst (λ (n : ℕ). n < length c.attend_one.new.region.keeper.numbers.bounds) (sym c.attend_one.ensures.same.1) c.attend_one.ensures.inside)
    (subst (λ (n : ℕ). c.loop-i.region.keeper.numbers.generation ≤ get_or c.attend_one.new.region.keeper.numbers.bounds n 0)
    (sym c.attend_one.ensures.same.1) c.attend_one.ensures.bound)
    (subst (λ (n : ℕ). KeeperSteps c.loop-i.region.keeper c.attend_one.new.region.keeper (TookWord n ∷ TookWord n ∷ []))
    (sym c.attend_one.ensures.same.1) c.attend_one.ensures.steps)

pub returns-clause-outside : goal.returns-clause-outside
returns-clause-outside c =
    attended_all c.args.gens.now c.args.region.now c.args.passes.now c.loop-i.region c.loop-i.passes c.loop-i.i c.loop-i.invariant
    (omega (arith, c.loop-i-test.false, c.loop-i.invariant.as_many))

pub returns-clause-steps : goal.returns-clause-steps
returns-clause-steps c =
    subst (λ (l : List PassState). KeeperSteps c.args.region.now.keeper c.loop-i.region.keeper (word_steps (meetings l)))
    (take_all c.loop-i.i c.args.passes.now (omega (arith, c.loop-i-test.false, c.loop-i.invariant.as_many))) c.loop-i.invariant.steps

pub returns-clause-unmet : goal.returns-clause-unmet
returns-clause-unmet c = c.loop-i.invariant.unmet
