use Rattle.std.proofs.Common.{◌*◌, ◌+◌, ◌<◌, length, slice_index, refl, ap, ◌∙◌, sym, arith}
use Rattle.std.specs.Result.{result_ok}
use Rattle.hex.proofs.HexLemmas.{decode_of-even}
use Rattle.hex.proofs.Pairs.{decode_step, decode_done, decode_err}
use Rattle.nc_lines.proofs.DigitValues.{pair_read, pair_refused}
use Rattle.nc_lines.proofs.words.decode_rest.Goals as goal

pub returns-then-byte-gt255 : goal.returns-then-byte-gt255
returns-then-byte-gt255 c =
    let digits = c.args.digits.now in
    let i = c.loop-i.i in
    let inside : 2 * i + 1 < length digits = omega arith in
    let (error, refused) = pair_refused c.args.values.now (slice_index digits (2 * i)) (slice_index digits (2 * i + 1)) (2 * i) _
    c.requires.values (omega arith) (omega arith) refl c.if-byte-gt255.true in
    sym (ap result_ok (decode_of-even digits (omega arith) ∙ decode_err digits c.loop-i.bytes i error inside refused c.loop-i.invariant))

pub loop-i-preserved : goal.loop-i-preserved
loop-i-preserved c =
    let digits = c.args.digits.now in
    let i = c.loop-i.i in
    decode_step digits c.loop-i.bytes i _ (omega arith) (omega arith)
    (pair_read c.args.values.now (slice_index digits (2 * i)) (slice_index digits (2 * i + 1)) (2 * i) _
    c.requires.values (omega arith) (omega arith) refl (omega arith))
    c.loop-i.invariant

pub returns : goal.returns
returns c =
    let digits = c.args.digits.now in
    sym (ap result_ok (decode_of-even digits (omega arith) ∙ decode_done digits c.loop-i.bytes c.loop-i.i (omega arith) (omega arith) c.loop-i.invariant))
