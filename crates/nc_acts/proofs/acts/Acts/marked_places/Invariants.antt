use Rattle.std.proofs.Common.{◌≡◌, ℕ, ◌+◌, ◌-◌, ◌<◌, ◌^◌}
use Rattle.std.specs.Int.{bit_at}
use Rattle.nc_decode.specs.Bits.{mark_bit}
use Rattle.nc_text.specs.Marks.{mark_at}
use Rattle.nc_acts.proofs.acts.Acts.marked_places.Given as goal

abbrev pub invariant-loop-n : goal.invariant-loop-n
invariant-loop-n g l =
    record {
      small : l.places < 2 ^ l.n;
      bits : (k : ℕ) → k < l.n → bit_at l.places k ≡ mark_bit (mark_at (g.Self.Acts.marked l.self).marks (l.at + (32 - l.n + k)));
    }
