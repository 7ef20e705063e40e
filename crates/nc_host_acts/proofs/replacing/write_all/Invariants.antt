use Rattle.nc_region.specs.Patch.{any_place}
use Rattle.nc_host_acts.specs.machinery.Writing.{HasPutUpTo}
use Rattle.nc_host_acts.proofs.replacing.write_all.Given as goal

abbrev pub invariant-loop-i : goal.invariant-loop-i
invariant-loop-i l = HasPutUpTo any_place l.at l.bytes l.initial.acts l.from l.i l.acts l.count
