use Rattle.std.proofs.Common.{◌≡◌, ℕ, ◌+◌, ◌/◌, ◌<◌}
use Rattle.std.specs.Prelude.{slice_index}
use Rattle.std.specs.Int.{bit_at}
use Rattle.nc_decode.specs.Bits.{bit_mark}
use Rattle.nc_text.specs.machinery.Masks.{mark_in}
use Rattle.nc_text.proofs.masks.Masks.of_bits.Given as goal

abbrev pub invariant-loop-left : goal.invariant-loop-left
invariant-loop-left l =
    record {
      still : (k : ℕ) → k < 32 → bit_at l.left k ≡ 1 → bit_at (l.fn.bundle.pairs / 2) k ≡ 1;
      done : (k : ℕ) → k < 32 → bit_at l.left k ≡ 0 → mark_in l.masks k ≡ bit_mark l.fn.bundle k (slice_index l.code (l.start + k + 1));
    }

abbrev pub decreases-loop-left : goal.decreases-loop-left
decreases-loop-left l = l.left
