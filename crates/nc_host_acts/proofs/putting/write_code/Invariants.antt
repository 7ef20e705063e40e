use Rattle.std.specs.Prelude.{◌*◌}
use Rattle.nc_host_acts.specs.machinery.Writing.{HasPutUpTo, starts_if}
use Rattle.nc_host_acts.proofs.putting.write_code.Given as goal

abbrev pub invariant-loop-n : goal.invariant-loop-n
invariant-loop-n g l = HasPutUpTo (starts_if l.starts) l.base (g.C.ReadChunk.code l.chunk) l.initial.acts l.from (32 * l.n) l.acts l.count
