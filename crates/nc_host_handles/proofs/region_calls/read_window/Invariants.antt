use Rattle.nc_host_handles.specs.machinery.Window.{HoldsText}
use Rattle.nc_host_handles.proofs.region_calls.read_window.Given as goal

abbrev pub invariant-loop-i : goal.invariant-loop-i
invariant-loop-i l = HoldsText l.region.marked.bytes l.at l.bytes l.i
