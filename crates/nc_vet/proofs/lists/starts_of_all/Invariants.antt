use Rattle.std.proofs.Common.{◌≡◌, ◌<◌, ◌≤◌, ℕ, length, get_or, true, false}
use Rattle.std.specs.Prelude.{vec_capacity}
use Rattle.std.specs.Int.{bit_at}
use Rattle.nc_decode.specs.Bits.{starts_instruction, is_second, no_bits}
use Rattle.nc_vet.proofs.lists.starts_of_all.Given as goal

abbrev pub invariant-loop-i : goal.invariant-loop-i
invariant-loop-i l = record {
  room : length l.bundles ≤ vec_capacity l.starts;
  long : length l.starts.items ≡ l.i;
  start : (n k : ℕ) → n < l.i → k < 32 → bit_at (get_or l.starts.items n 0) k ≡ 1
      → starts_instruction (get_or l.bundles n no_bits) k ≡ true;
  second : (n k : ℕ) → n < l.i → k < 32 → bit_at (get_or l.starts.items n 0) k ≡ 1 → is_second (get_or l.bundles n no_bits) k ≡ false;
}
