use Rattle.std.proofs.Common.{◌≡◌, ℕ, ◌+◌, ◌≤◌, ◌++◌, length, take, map}
use Rattle.std.specs.Prelude.{vec_capacity}
use Rattle.nc_list.proofs.starts.join_starts.Given as goal

abbrev pub invariant-loop-i : goal.invariant-loop-i
invariant-loop-i l = record {
  room : length l.initial.starts.items + length l.upper.items ≤ vec_capacity l.starts;
  done : l.starts.items ≡ l.initial.starts.items ++ map (λ (n : ℕ). n + l.count) (take l.i l.upper.items);
}
