use Rattle.std.proofs.Common.{◌≡◌, ◌++◌, ℕ, List, length, arith, rules}
use Rattle.std.proofs.lemmas.Result.{on_ok_weaker}
use Rattle.std.proofs.lemmas.List.{drop_all}
use Rattle.nc_lines.specs.Lines.{bad_line}
use Rattle.nc_output.proofs.Offered.{added_all}
use Rattle.nc_lines.proofs.VetReplies.{bad_next, named_next, none_next}
use Rattle.nc_lines.proofs.verdicts.push_reply.Goals as goal

pub returns-in-Some : goal.returns-in-Some
returns-in-Some c =
    on_ok_weaker c.push_verdict.result
    (λ says limit line lines rest h.
    named_next limit line lines c.args.is_named rest _ _ c.in-Some.verdict
    (λ (reply : List ℕ). c.push_verdict.new.out.items ≡ c.args.out.now.items ++ reply)
    (search rules) c.in-Some.ensures.items says h) c.push_verdict.ensures

pub returns-in-None : goal.returns-in-None
returns-in-None c = λ limit line lines rest h.
    let none : length c.args.left.now.rest.items ≡ 0 = omega (arith, c.in-None.ensures.cases.0, c.args.left.now.rest.ok.0) in
    absurd (none_next limit line lines c.args.is_named rest _ (search rules) (drop_all 0 c.args.left.now.rest.items (omega arith)) h)

pub returns-then-not-is_named : goal.returns-then-not-is_named
returns-then-not-is_named c =
    on_ok_weaker c.extend_from_slice.result
    (λ e limit line lines rest h.
    let next = bad_next limit line lines c.args.is_named rest _ (search rules) h in
    (bad_line, e, next.0, next.1))
    (added_all c.extend_from_slice.result _ _ bad_line c.extend_from_slice.ensures.items)
