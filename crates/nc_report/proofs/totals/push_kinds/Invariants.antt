-- The kinds so far were added, and the others are left.
use Rattle.std.proofs.Common.{◌≡◌, ◌++◌, ℕ, List, Bor, false, map, drop}
use Rattle.nc_report.specs.Totals.{kinds_from}
use Rattle.nc_report.proofs.totals.push_kinds.Given as goal

abbrev pub invariant-loop-n : goal.invariant-loop-n
invariant-loop-n l =
    l.out.items ++ kinds_from l.begun (map (λ (kind : ℕ × Bor (List ℕ)). (kind.0, kind.1.now)) (drop l.n-index l.kinds))
    ≡ l.initial.out.items ++ kinds_from false (map (λ (kind : ℕ × Bor (List ℕ)). (kind.0, kind.1.now)) l.kinds)
