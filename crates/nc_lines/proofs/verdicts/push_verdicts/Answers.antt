use Rattle.std.proofs.Common.{◌≡◌, length, arith, rules}
use Rattle.std.proofs.lemmas.Grind.{common_steps}
use Rattle.std.proofs.lemmas.List.{drop_all}
use Rattle.nc_lines.proofs.VetReplies.{replied_start, replied_more, replied_all}
use Rattle.nc_lines.proofs.verdicts.push_verdicts.Goals as goal

pub loop-is_named-init : goal.loop-is_named-init
loop-is_named-init c = λ limit lines h. replied_start limit lines _ _ _ h

pub loop-is_named-preserved : goal.loop-is_named-preserved
loop-is_named-preserved c = λ limit lines h.
    replied_more limit lines c.in-Some.is_named _ _ _ _ _ _ _
    (c.loop-is_named.invariant limit lines h) c.in-Some.ensures.steps.0 c.in_ok-push_reply.ensures

pub returns-in_err-push_reply : goal.returns-in_err-push_reply
returns-in_err-push_reply c = grind (arith, common_steps)

pub returns : goal.returns
returns c = λ limit lines h.
    let flags = c.loop-is_named.is_named-iterator.rest in
    let none : length flags.items ≡ 0 = omega (arith, c.in-None.ensures.steps.0, flags.ok.0) in
    replied_all limit lines _ _ _ _ (c.loop-is_named.invariant limit lines (search rules)) (drop_all 0 flags.items (omega arith))
