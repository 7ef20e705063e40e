use Rattle.std.proofs.Common.{◌<◌, ◌++◌, ◌∷◌, [], List, length, take, arith, sym, ap, ◌∙◌}
use Rattle.std.proofs.lemmas.List.{take_more, take_more_set, length-set}
use Rattle.std.proofs.lemmas.Option.{get_or_from_slice_get}
use Rattle.nc_decode.specs.declared.instruction.Mark.{Mark}
use Rattle.nc_decode.specs.declared.instruction.Mark.TheVariants.{Unmarked}
use Rattle.nc_region.proofs.create.list_into.Goals as goal

pub loop-i-preserved : goal.loop-i-preserved
loop-i-preserved c =
    let all = c.args.vetted.now.marks in
    let marks = c.loop-i.marks in
    let i = c.loop-i.i in
    let so = c.loop-i.invariant in
    let code : i < length c.args.vetted.now.code = rw (← c.code-i-end.ensures.value) c.loop-i-test.true in
    let lt : i < length all = rw c.requires.as_long code in
    record {
      front = take_more_set marks i c.mark.result (omega (arith, code, so.as_long, c.requires.fits))
          ∙ (ap (λ (front : List Mark). front ++ c.mark.result ∷ []) so.front
          ∙ (ap (λ (m : Mark). take i all ++ m ∷ []) (sym (get_or_from_slice_get all i c.mark.result Unmarked c.mark.ensures.value))
          ∙ sym (take_more all i Unmarked lt)));
      within = omega (arith, code);
      as_long = length-set marks i c.mark.result ∙ so.as_long;
    }
