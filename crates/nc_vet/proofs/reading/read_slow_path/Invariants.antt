use Rattle.std.proofs.Common.{◌≡◌, ◌≤◌, ◌-◌, length}
use Rattle.nc_vet.specs.machinery.Steps.{HasRead}
use Rattle.nc_vet.proofs.reading.read_slow_path.Given as goal

abbrev pub invariant-loop-at : goal.invariant-loop-at
invariant-loop-at l = record {
  in_code : l.at ≤ length l.code;
  marks_len : length l.marks.items ≡ length l.code;
  so_far : HasRead l.code l.at l.masked l.marks.items;
}

abbrev pub decreases-loop-at : goal.decreases-loop-at
decreases-loop-at l = length l.code - l.at
