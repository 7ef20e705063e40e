use Rattle.std.proofs.Common.{◌≡◌, ◌∙◌, sym, ltb-true, lt-ltb, true, false}
use Rattle.nc_decode.proofs.bundles.is_outside_target.Goals as goal

pub returns-then-is_bundle_start : goal.returns-then-is_bundle_start
returns-then-is_bundle_start c =
    (λ t. (c.is_bundle_start.ensures.0 c.if-is_bundle_start.true, ltb-true _ _ t), λ good. lt-ltb _ _ good.1)

pub returns-else-is_bundle_start : goal.returns-else-is_bundle_start
returns-else-is_bundle_start c =
    (λ t. absurd (let f : true ≡ false = sym t ∙ c.if-is_bundle_start.false in cc), λ good. c.is_bundle_start.ensures.1 good.0)
