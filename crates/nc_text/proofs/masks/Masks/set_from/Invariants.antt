use Rattle.std.proofs.Common.{ℕ, get_or}
use Rattle.nc_decode.specs.declared.instruction.Mark.TheVariants.{Unmarked}
use Rattle.nc_text.proofs.Spans.{IsMarkedUpTo}
use Rattle.nc_text.proofs.masks.Masks.set_from.Given as goal

abbrev pub invariant-loop-i : goal.invariant-loop-i
invariant-loop-i l = IsMarkedUpTo (λ (k : ℕ). get_or l.marks k Unmarked) l.from l.i l.initial.masks l.masks
