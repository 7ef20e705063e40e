use Rattle.std.proofs.Common.{◌≡◌, ap, arith, refl}
use Rattle.std.specs.Result.{result_ok}
use Rattle.nc_disasm.proofs.WholeInstructions.{len_of, spelled_long, spelled_whole, whole_at_front}
use Rattle.nc_disasm.proofs.naming.whole.Goals as goal

pub returns-in-Ok-clause-is : goal.returns-in-Ok-clause-is
returns-in-Ok-clause-is c =
    spelled_whole c.args.bytes.now c.in-Ok.instr ((c.in-Ok.ensures.found c.in-Ok.instr).0 refl)
    (omega (arith, c.from.ensures, c.if-from-bytes.true))

pub returns-in-Ok-clause-only : goal.returns-in-Ok-clause-only
returns-in-Ok-clause-only c = λ i s. ap result_ok ((c.in-Ok.ensures.found i).1 (whole_at_front c.args.bytes.now i s))

pub returns-in_default-clause-only : goal.returns-in_default-clause-only
returns-in_default-clause-only c = λ i s.
    let same : c.in-Ok.instr.len ≡ i.len = ap len_of ((c.in-Ok.ensures.found i).1 (whole_at_front c.args.bytes.now i s)) in
    absurd (c.if-from-bytes.false (omega (arith, c.from.ensures, same, spelled_long c.args.bytes.now i s)))

pub returns-in_default-2-clause-only : goal.returns-in_default-2-clause-only
returns-in_default-2-clause-only c = λ i s.
    ap result_ok ((c.in_default.ensures.found i).1 (whole_at_front c.args.bytes.now i s))
