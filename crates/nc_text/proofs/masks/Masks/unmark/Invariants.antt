use Rattle.std.proofs.Common.{ℕ, ◌+◌}
use Rattle.nc_text.specs.MarkedText.{unused_mark}
use Rattle.nc_text.proofs.Spans.{IsMarkedUpTo}
use Rattle.nc_text.proofs.masks.Masks.unmark.Given as goal

abbrev pub invariant-loop-i : goal.invariant-loop-i
invariant-loop-i l = IsMarkedUpTo (λ (k : ℕ). unused_mark (l.from + k)) l.from l.i l.initial.masks l.masks
