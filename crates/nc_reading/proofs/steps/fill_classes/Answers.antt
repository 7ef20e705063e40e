use Rattle.std.proofs.Common.{ℕ, List, Option, None, ◌≤◌, ◌+◌, ◌%◌, ◌-◌, ◌==◌, cond, length, refl, sym, subst, ap, arith}
use Rattle.std.proofs.lemmas.List.{take_rest, length-drop}
use Rattle.nc_reading.specs.Reading.{IsStep}
use Rattle.nc_reading.specs.machinery.Seen.{HasFilled}
use Rattle.nc_reading.proofs.ReadSteps.{none_filled_yet, one_filled, some_after, all_filled}
use Rattle.nc_reading.proofs.BundleReading.{masked_at_start, none_masked_past}
use Rattle.nc_reading.proofs.steps.fill_classes.Goals as goal

pub loop-at-init : goal.loop-at-init
loop-at-init c = record { in_code = omega arith; so_far = none_filled_yet _ _ c.requires.clear }

pub loop-at-preserved-then-end-at : goal.loop-at-preserved-then-end-at
loop-at-preserved-then-end-at c =
    let end = c.fill_bundles-end.result in
    record {
      in_code = c.fill_bundles-end.ensures.room;
      so_far = subst (λ (o : Option ℕ). HasFilled c.args.code.now end o c.fill_bundles-end.new.classes)
          (none_masked_past c.loop-at.at end c.loop-at.masked c.if-end-at.true)
          (c.fill_bundles-end.ensures.read c.loop-at.masked c.loop-at.invariant.so_far);
    }

pub loop-at-preserved : goal.loop-at-preserved
loop-at-preserved c =
    let code = c.args.code.now in
    let at = c.loop-at.at in
    let masked = c.loop-at.masked in
    let rest = take_rest code at in
    let step = subst (λ (z : List ℕ). IsStep (32 - at % 32) masked z c.step_at-step.result) rest c.step_at-step.ensures.step in
    let within : at + c.step_at-step.result.len ≤ length code
    = omega (arith, c.step_at-step.ensures.within, length-drop at code, ap (λ (z : List ℕ). length z) rest, c.loop-at.invariant.in_code) in
    let so_far = subst (λ (o : Option ℕ). HasFilled code at o c.fill_bundles-end.new.classes) (sym (masked_at_start at masked))
    (subst (λ (n : ℕ). HasFilled code n (cond (n == at) masked None) c.fill_bundles-end.new.classes) (omega arith)
    (c.fill_bundles-end.ensures.read masked c.loop-at.invariant.so_far)) in
    record {
      in_code = within;
      so_far = one_filled _ _ _ _ _ _ _ _ _ so_far (some_after code at c.loop-at-test.true) step refl c.step_at-step.ensures.some
          within c.put_classes.ensures c.masked_by-masked.ensures refl;
    }

pub returns : goal.returns
returns c = all_filled _ _ _ _ c.loop-at.invariant.so_far (omega (arith, c.loop-at.invariant.in_code))
