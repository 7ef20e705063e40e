use Rattle.std.proofs.Common.{◌≡◌, ℕ, ◌<◌, get_or}
use Rattle.std.specs.Int.{bit_at}
use Rattle.nc_decode.specs.declared.instruction.Mark.TheVariants.{Unmarked}
use Rattle.nc_text.specs.machinery.Masks.{mark_in}
use Rattle.nc_text.proofs.masks.Masks.of.Given as goal

abbrev pub invariant-loop-left : goal.invariant-loop-left
invariant-loop-left l =
    record { done : (k : ℕ) → k < 32 → bit_at l.left k ≡ 0 → mark_in l.masks k ≡ get_or l.marks k Unmarked }

abbrev pub decreases-loop-left : goal.decreases-loop-left
decreases-loop-left l = l.left
