use Rattle.std.specs.Prelude.{◌≡◌, length, take}
use Rattle.nc_host_acts.specs.Shown.{over}
use Rattle.nc_host.proofs.region_walk.write_places.Given as goal

abbrev pub invariant-loop-i : goal.invariant-loop-i
invariant-loop-i l = record {
  len : length l.buffer ≡ length l.initial.buffer;
  written : l.buffer ≡ over (take l.i l.places) l.initial.buffer;
}
