use Rattle.std.proofs.Common.{arith, refl}
use Rattle.std.proofs.lemmas.Grind.{common_steps}
use Rattle.nc_vet.proofs.reading.next.Goals as goal

pub returns-then-ne-clause-refused : goal.returns-then-ne-clause-refused
returns-then-ne-clause-refused c = grind (arith, common_steps)

pub returns-in-Err-NotPermitted-clause-refused : goal.returns-in-Err-NotPermitted-clause-refused
returns-in-Err-NotPermitted-clause-refused c =
    let none = c.decode_within.ensures.refused cc in
    (refl, none.0, none.1)

pub returns-in-Err-Truncated-clause-refused : goal.returns-in-Err-Truncated-clause-refused
returns-in-Err-Truncated-clause-refused c = (refl, c.decode_within.ensures.cut cc)
