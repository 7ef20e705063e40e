use Rattle.std.proofs.Common.{◌≡◌, ◌≤◌, length, take}
use Rattle.nc_region.proofs.create.list_into.Given as goal

abbrev pub invariant-loop-i : goal.invariant-loop-i
invariant-loop-i l =
    record {
      front : take l.i l.marks ≡ take l.i l.vetted.marks;
      within : l.i ≤ length l.vetted.code;
      as_long : length l.marks ≡ length l.initial.marks;
    }
