-- The runs so far are written.
use Rattle.std.proofs.Common.{length}
use Rattle.nc_report.specs.machinery.Runs.{HasCounted}
use Rattle.nc_report.proofs.outside.push_counts.Given as goal

abbrev pub invariant-loop-rest : goal.invariant-loop-rest
invariant-loop-rest l = HasCounted l.format l.numbers l.initial.out.items l.out.items l.rest

abbrev pub decreases-loop-rest : goal.decreases-loop-rest
decreases-loop-rest l = length l.rest
