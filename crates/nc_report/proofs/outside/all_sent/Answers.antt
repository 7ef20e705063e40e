use Rattle.std.proofs.Common.{◌≡◌, ◌+◌, ℕ, List, drop, sym, subst, ap, arith, refl}
use Rattle.std.proofs.lemmas.List.{length-drop, take_rest}
use Rattle.nc_decode.specs.Spelling.{IsAtFront}
use Rattle.nc_report.specs.machinery.Runs.{HasReadCode}
use Rattle.nc_report.proofs.SentOutside.{none_read, read_more, all_known, none_at_end}
use Rattle.nc_report.proofs.outside.all_sent.Goals as goal
use Rattle.nc_report.proofs.outside.all_sent.Goals.{else-loop-at-test, then-loop-at-test+in_default}

pub loop-at-init : goal.loop-at-init
loop-at-init c = (omega arith, subst (HasReadCode c.args.base c.args.code.now 0) (sym c.new-sent.ensures.items) (none_read c.args.base c.args.code.now))

pub loop-at-preserved : goal.loop-at-preserved
loop-at-preserved c =
    let (le, has) = c.loop-at.invariant in
    let code = c.args.code.now in
    let at = c.loop-at.at in
    let i = c.in-Ok.instr in
    let f : IsAtFront (drop at code) i = subst (λ (z : List ℕ). IsAtFront z i) (take_rest code at) ((c.in-Ok.ensures.found i).0 refl) in
    let len : c.from-at.result ≡ i.len = c.from-at.ensures in
    let to : at + c.from-at.result ≡ at + i.len = ap (λ (n : ℕ). at + n) len in (
      omega (arith, len, (c.in-Ok.ensures.sized), length-drop at code),
      subst (λ (n : ℕ). HasReadCode c.args.base code n c.push_sent.new.sent.items) (sym to)
          (read_more c.args.base at code c.loop-at.sent.items c.push_sent.new.sent.items i has f c.in_ok-push_sent.ensures),
    )

pub returns : goal.returns
returns c =
    let (le, has) = c.loop-at.invariant in
    let code = c.args.code.now in
    let at = c.loop-at.at in
    elim c.loop-at-test.branch [
      | else-loop-at-test w ↦ all_known c.args.base at code c.loop-at.sent.items has
          (λ i f. none_at_end code at i (omega (arith, w.loop-at-test.false)) f)
      | then-loop-at-test+in_default w ↦ all_known c.args.base at code c.loop-at.sent.items has
          (λ i f. w.in_default.not-Ok i ((w.decode.ensures.found i).1 (subst (λ (z : List ℕ). IsAtFront z i) (sym (take_rest code at)) f)))
    ]
