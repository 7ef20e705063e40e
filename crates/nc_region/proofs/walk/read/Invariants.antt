use Rattle.std.proofs.Common.{◌≡◌, ℕ, ◌+◌, ◌<◌, length, get_or}
use Rattle.nc_text.specs.Places.{byte_at}
use Rattle.nc_region.proofs.walk.read.Given as goal

abbrev pub invariant-loop-k : goal.invariant-loop-k
invariant-loop-k g l =
    record {
      as_long : length l.bytes ≡ 32;
      read : (k : ℕ) → k < l.k → get_or l.bytes k 0 ≡ byte_at (g.A.Acts.marked l.acts).bytes (l.at + k);
    }
