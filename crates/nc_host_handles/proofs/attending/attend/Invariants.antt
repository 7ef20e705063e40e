use Rattle.nc_host_handles.specs.machinery.Attending.{HasAttended}
use Rattle.nc_host_handles.proofs.attending.attend.Given as goal

abbrev pub invariant-loop-i : goal.invariant-loop-i
invariant-loop-i l = HasAttended l.gens l.initial.region l.initial.passes l.region l.passes l.i
