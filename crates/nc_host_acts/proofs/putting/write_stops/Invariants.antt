use Rattle.std.specs.Prelude.{◌*◌, length, replicate}
use Rattle.nc_host_acts.specs.machinery.Writing.{HasPutUpTo, marks_if}
use Rattle.nc_host_acts.proofs.putting.write_stops.Given as goal

abbrev pub invariant-loop-n : goal.invariant-loop-n
invariant-loop-n g l =
    HasPutUpTo (marks_if l.marked (g.C.ReadChunk.marks l.chunk) l.base) l.base (replicate (length (g.C.ReadChunk.code l.chunk)) 244)
    l.initial.acts l.from (32 * l.n) l.acts l.count
