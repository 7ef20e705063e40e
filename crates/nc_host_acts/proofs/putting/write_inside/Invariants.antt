use Rattle.nc_acts.specs.Acts.{is_inside}
use Rattle.nc_host_acts.specs.machinery.Writing.{HasPutUpTo}
use Rattle.nc_host_acts.proofs.putting.write_inside.Given as goal

abbrev pub invariant-loop-k : goal.invariant-loop-k
invariant-loop-k l = HasPutUpTo is_inside l.at l.bytes l.initial.acts l.from l.k l.acts l.count
