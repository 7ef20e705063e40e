-- The passes so far have their places.
use Rattle.std.proofs.Common.{◌≡◌, map, Some}
use Rattle.nc_script.proofs.seats.hold_passes.Given as goal

abbrev pub invariant-loop-pass : goal.invariant-loop-pass
invariant-loop-pass l = l.held.items ≡ map Some l.yielded
