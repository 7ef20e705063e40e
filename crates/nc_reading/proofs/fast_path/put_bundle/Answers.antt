use Rattle.std.proofs.Common.{◌≡◌, ◌+◌, ◌-◌, ◌++◌, ◌∷◌, ◌∙◌, [], ℕ, List, length, take, ap, arith, replicate, take_all, refl, length-set, length-take-le}
use Rattle.nc_reading.specs.declared.class.Class.{Class}
use Rattle.nc_reading.specs.declared.class.Class.TheVariants.{Inside}
use Rattle.nc_reading.specs.machinery.FastPath.{bundle_classes}
use Rattle.nc_reading.proofs.BundleReading.{class_more, length-classes}
use Rattle.nc_reading.proofs.ReadSteps.{one_put}
use Rattle.nc_reading.proofs.fast_path.put_bundle.Goals as goal

pub loop-k-preserved : goal.loop-k-preserved
loop-k-preserved c =
    let at = c.args.at in
    let k = c.loop-k.k in
    record {
      put = λ code front after room h n e.
          (let all = bundle_classes code at in
          let long : length (take k all) ≡ k = length-take-le k all (omega (arith, length-classes code at room, c.loop-k-test.true)) in
          one_put front (take k all) after c.loop-k.classes at k 32 c.class_by.result n long c.loop-k-test.true
          (c.loop-k.invariant.put code front after room h n e)
          ∙ ap (λ (z : List Class). front ++ (z ++ (replicate (32 - (k + 1)) Inside ++ after)))
          (ap (λ (s : Class). take k all ++ s ∷ []) c.class_by.ensures
          ∙ class_more code at c.args.states.now k _ _ room h c.loop-k-test.true refl refl));
      long = length-set c.loop-k.classes (at + k) c.class_by.result ∙ c.loop-k.invariant.long;
    }

pub returns-clause-put : goal.returns-clause-put
returns-clause-put c = λ code front after room h n e.
    let all = bundle_classes code c.args.at in
    let k = c.loop-k.k in
    c.loop-k.invariant.put code front after room h n e
    ∙ ap (λ (m : ℕ). front ++ (take k all ++ (replicate m Inside ++ after))) {x = 32 - k} {y = 0} (omega (arith, c.loop-k-test.false))
    ∙ ap (λ (z : List Class). front ++ (z ++ after)) (take_all k all (omega (arith, length-classes code c.args.at room, c.loop-k-test.false)))
