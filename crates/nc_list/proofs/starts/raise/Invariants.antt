use Rattle.std.proofs.Common.{ℕ, ◌+◌}
use Rattle.nc_list.proofs.Mapped.{IsMappedUpTo}
use Rattle.nc_list.proofs.starts.raise.Given as goal

abbrev pub invariant-loop-i : goal.invariant-loop-i
invariant-loop-i l = IsMappedUpTo (λ (n : ℕ). n + 1) (l.k + 1) l.i l.initial.starts l.starts
