-- The places so far are quiet.
use Rattle.std.proofs.Common.{◌≡◌, ℕ, ◌-◌, ◌<◌, ◌≤◌, true, length, get_or, slice_index}
use Rattle.nc_reading.specs.declared.class.Class.TheVariants.{Inside}
use Rattle.nc_reading.specs.Quiet.{is_quiet, AreCandidates}
use Rattle.nc_reading.proofs.candidates.next_candidate.Given as goal

abbrev pub invariant-loop-at : goal.invariant-loop-at
invariant-loop-at l = record {
  low : l.from ≤ l.at;
  within : l.at ≤ length l.code;
  known : AreCandidates l.code l.classes l.seen.at l.seen.bits;
  quiet : (k : ℕ) → l.from ≤ k → k < l.at → is_quiet (get_or l.classes k Inside) (slice_index l.code k) ≡ true;
}

abbrev pub decreases-loop-at : goal.decreases-loop-at
decreases-loop-at l = length l.code - l.at
