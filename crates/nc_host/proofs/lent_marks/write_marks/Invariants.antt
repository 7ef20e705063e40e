use Rattle.std.specs.Prelude.{◌≡◌, length, map, take}
use Rattle.nc_vet.specs.Listed.{listed}
use Rattle.nc_host_acts.specs.Shown.{over}
use Rattle.nc_host.specs.Shown.{mark_number}
use Rattle.nc_host.proofs.lent_marks.write_marks.Given as goal

abbrev pub invariant-loop-i : goal.invariant-loop-i
invariant-loop-i l = record {
  len : length l.buffer ≡ length l.initial.buffer;
  written : l.buffer ≡ over (map mark_number (take l.i (listed l.code l.marks))) l.initial.buffer;
}
