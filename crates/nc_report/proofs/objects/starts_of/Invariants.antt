-- The elements so far are JSON.
use Rattle.nc_report.specs.Objects.{InArray, IsJson}
use Rattle.nc_report.proofs.objects.starts_of.Given as goal

abbrev pub invariant-loop-k : goal.invariant-loop-k
invariant-loop-k l = IsJson InArray l.starts.items
