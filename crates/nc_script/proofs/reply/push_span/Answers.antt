use Rattle.std.proofs.Common.{◌∷◌, [], ◌++◌, ℕ, ap, ◌∙◌, arith}
use Rattle.std.proofs.lemmas.Result.{IfOk-from_err}
use Rattle.hex.specs.Hex.{encode_lower}
use Rattle.nc_script.proofs.chunks.SpanDigits.{digits_none, digits_more}
use Rattle.nc_script.proofs.reply.push_span.Goals as goal

pub loop-at-init : goal.loop-at-init
loop-at-init g c = digits_none c.args.region.now.marked.bytes c.args.out.now.items c.args.base

pub returns-in_err-push_byte : goal.returns-in_err-push_byte
returns-in_err-push_byte g c = IfOk-from_err _ _ c.from_residual.ensures.0

pub loop-at-preserved : goal.loop-at-preserved
loop-at-preserved g c =
    digits_more c.args.region.now.marked.bytes c.args.out.now.items c.loop-at.out.items c.push_byte.new.out.items c.args.base c.loop-at.at
    c.requires.low (omega arith) (omega (arith, c.requires.high))
    c.loop-at.invariant
    (c.in_ok-push_byte.ensures ∙ ap (λ (b : ℕ). c.loop-at.out.items ++ encode_lower (b ∷ [])) c.byte.ensures)
