use Rattle.std.proofs.Common.{◌≡◌, ℕ, ◌-◌, ◌≤◌, length, take, drop, map}
use Rattle.std.specs.Prelude.{vec_capacity}
use Rattle.nc_list.proofs.starts.split_starts.Given as goal

abbrev pub invariant-loop-i : goal.invariant-loop-i
invariant-loop-i l = record {
  from : l.cut ≤ l.i;
  room : length l.starts.items - l.cut ≤ vec_capacity l.upper;
  long : length l.upper.items ≡ l.i - l.cut;
  done : l.upper.items ≡ map (λ (n : ℕ). n - l.before) (take (l.i - l.cut) (drop l.cut l.starts.items));
}
