use Rattle.std.proofs.Common.{◌≤◌, ◌-◌, vec_len}
use Rattle.nc_vet.specs.machinery.Running.{AreTold}
use Rattle.nc_vet.proofs.lanes.read_bundles.Given as goal

abbrev pub invariant-loop-bundles : goal.invariant-loop-bundles
invariant-loop-bundles l = record { within : vec_len l.bundles ≤ l.count; told : AreTold l.code l.bundles.items }

abbrev pub decreases-loop-bundles : goal.decreases-loop-bundles
decreases-loop-bundles l = l.count - vec_len l.bundles
