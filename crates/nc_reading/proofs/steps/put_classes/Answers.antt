use Rattle.std.proofs.Common.{◌≡◌, ◌+◌, ◌-◌, ◌++◌, ◌∷◌, [], Bool, length, sym, ap, ◌∙◌, append_assoc, arith, replicate}
use Rattle.std.proofs.lemmas.Bool.{not-true, not-false}
use Rattle.std.proofs.lemmas.List.{length_push}
use Rattle.nc_reading.specs.declared.class.Class.{Class}
use Rattle.nc_reading.specs.declared.class.Class.TheVariants.{Inside, Skipped}
use Rattle.nc_reading.specs.Reading.{class_of, later_class}
use Rattle.nc_reading.proofs.ReadSteps.{first_put}
use Rattle.nc_reading.proofs.steps.put_classes.Goals as goal

pub returns-then-not-step : goal.returns-then-not-step
returns-then-not-step c = λ before more len e.
    let first = c.class_of.result in
    let n = c.args.step.len in
    let later = replicate (n - 1) Inside ++ replicate more Inside in
    let skipped = replicate (n - 1) Skipped ++ replicate more Inside in
    let from : length (before ++ first ∷ []) ≡ c.args.at + 1 = omega (arith, len, length_push before first) in
    c.put_skipped.ensures (before ++ first ∷ []) (replicate more Inside) from
    (first_put c.args.classes.now before c.args.at n more first len c.requires.some e ∙ sym (append_assoc before (first ∷ []) later))
    ∙ append_assoc before (first ∷ []) skipped
    ∙ ap (λ (s : Class). before ++ s ∷ skipped) c.class_of.ensures
    ∙ ap (λ (b : Bool). before ++ class_of c.args.step.found ∷ (replicate (n - 1) (later_class b) ++ replicate more Inside)) (sym (not-true c.args.step.whole c.if-not-step.true))

pub returns-else-not-step : goal.returns-else-not-step
returns-else-not-step c = λ before more len e.
    let n = c.args.step.len in
    first_put c.args.classes.now before c.args.at n more c.class_of.result len c.requires.some e
    ∙ ap (λ (s : Class). before ++ s ∷ (replicate (n - 1) Inside ++ replicate more Inside)) c.class_of.ensures
    ∙ ap (λ (b : Bool). before ++ class_of c.args.step.found ∷ (replicate (n - 1) (later_class b) ++ replicate more Inside)) (sym (not-false c.args.step.whole c.if-not-step.false))
