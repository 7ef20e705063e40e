-- The bytes so far are prefixes.
use Rattle.std.proofs.Common.{◌≡◌, ℕ, ◌<◌, true, slice_index}
use Rattle.nc_decode.specs.Barred.{leading, among}
use Rattle.nc_reading.proofs.lengths.count_prefixes.Given as goal

abbrev pub invariant-loop-count : goal.invariant-loop-count
invariant-loop-count l = (k : ℕ) → k < l.count → among leading (slice_index l.bytes k) ≡ true
