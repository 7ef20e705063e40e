use Rattle.std.proofs.Common.{◌-◌, ◌<◌, ◌≤◌, ◌≡◌, ℕ, length, get_or}
use Rattle.std.specs.Int.{bit_at}
use Rattle.nc_decode.specs.Bits.{no_bits}
use Rattle.nc_vet.proofs.lanes.whole_front.Given as goal

abbrev pub invariant-loop-n : goal.invariant-loop-n
invariant-loop-n l = record {
  within : l.n ≤ length l.bundles;
  whole : (k : ℕ) → k < l.n
      → bit_at (get_or l.bundles k no_bits).ends 31 ≡ 1;
}

abbrev pub decreases-loop-n : goal.decreases-loop-n
decreases-loop-n l = length l.bundles - l.n
