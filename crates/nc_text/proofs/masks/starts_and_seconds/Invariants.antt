use Rattle.std.proofs.Common.{◌≡◌, ℕ, ◌+◌, ◌-◌, ◌*◌, ◌<◌, ◌^◌, get_or}
use Rattle.std.specs.Int.{bit_at}
use Rattle.nc_decode.specs.declared.instruction.Mark.TheVariants.{Unmarked}
use Rattle.nc_text.specs.machinery.Masks.{plain_bit, second_bit}
use Rattle.nc_text.proofs.masks.starts_and_seconds.Given as goal

abbrev pub invariant-loop-n : goal.invariant-loop-n
invariant-loop-n l =
    record {
      low : ℕ;
      high : ℕ;
      both : l.both ≡ low + 2 ^ 32 * high;
      low_small : low < 2 ^ l.n;
      high_small : high < 2 ^ l.n;
      starts : (k : ℕ) → k < l.n → bit_at low k ≡ plain_bit (get_or l.marks (32 - l.n + k) Unmarked);
      seconds : (k : ℕ) → k < l.n → bit_at high k ≡ second_bit (get_or l.marks (32 - l.n + k) Unmarked);
    }
