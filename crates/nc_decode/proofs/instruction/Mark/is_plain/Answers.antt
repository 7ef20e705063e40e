use Rattle.std.proofs.Common.{refl}
use Rattle.nc_decode.proofs.instruction.Mark.is_plain.Goals as goal

pub returns-in-Plain : goal.returns-in-Plain
returns-in-Plain c = (λ is. c.in-Plain.is, λ is. refl)
