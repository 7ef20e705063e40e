use Rattle.std.proofs.Common.{◌/◌, ◌%◌, ◌∙◌, sym, get_or, eqb-true}
use Rattle.std.proofs.lemmas.Nat.Bits.{shr_and_one}
use Rattle.nc_vet.proofs.GoodOffsets.{good_inside}
use Rattle.nc_vet.proofs.lists.is_good_offset.Goals as goal

pub returns-then-offset-starts : goal.returns-then-offset-starts
returns-then-offset-starts c = λ code bundles each starts t.
    good_inside c.args.base c.args.limit code bundles c.args.starts.now c.args.offset each starts c.requires.fits c.if-offset-starts.true
    (sym (shr_and_one (get_or c.args.starts.now (c.args.offset / 32) 0) (c.args.offset % 32)) ∙ eqb-true _ 1 t)
