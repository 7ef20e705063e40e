use Rattle.std.proofs.Common.{◌≡◌, ◌≤◌, length, take, vec_capacity}
use Rattle.nc_region.proofs.create.listed.Given as goal

abbrev pub invariant-loop-i : goal.invariant-loop-i
invariant-loop-i l =
    record {
      front : l.marks.items ≡ take l.i l.vetted.marks;
      within : l.i ≤ length l.vetted.code;
      room : length l.vetted.code ≤ vec_capacity l.marks;
    }
