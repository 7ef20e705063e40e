-- The first places are marked.
use Rattle.std.proofs.Common.{◌≡◌, ℕ, ◌+◌, ◌<◌, length, get_or, if◌then◌else◌, slice_index}
use Rattle.nc_reading.specs.declared.class.Class.TheVariants.{Inside}
use Rattle.nc_reading.specs.Quiet.{is_quiet}
use Rattle.nc_reading.proofs.candidates.quiet_marks.Given as goal

abbrev pub invariant-loop-k : goal.invariant-loop-k
invariant-loop-k l = record {
  marked : (j : ℕ) → j < l.k → get_or l.marks j 0
      ≡ (if is_quiet (get_or l.classes (l.at + j) Inside) (slice_index l.code (l.at + j)) then 1 else 0);
  long : length l.marks ≡ 32;
}
