use Rattle.nc_host_acts.specs.machinery.Running.{HasRunUpTo}
use Rattle.nc_host_acts.proofs.runs.write_runs.Given as goal

abbrev pub invariant-loop-i : goal.invariant-loop-i
invariant-loop-i g l =
    HasRunUpTo l.places (g.C.ReadChunk.marks l.chunk) l.base (g.C.ReadChunk.code l.chunk) l.initial.acts l.from l.i l.acts l.count
