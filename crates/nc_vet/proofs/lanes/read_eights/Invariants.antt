use Rattle.std.proofs.Common.{◌≤◌, ◌-◌, ◌*◌, vec_len, vec_capacity, length}
use Rattle.nc_vet.specs.machinery.Running.{AreTold}
use Rattle.nc_vet.proofs.lanes.read_eights.Given as goal

abbrev pub invariant-loop-states : goal.invariant-loop-states
invariant-loop-states l = record {
  told : AreTold l.code l.bundles.items;
  within : 32 * vec_len l.bundles ≤ length l.code;
  room : length l.code ≤ 32 * vec_capacity l.bundles;
}

abbrev pub decreases-loop-states : goal.decreases-loop-states
decreases-loop-states l = l.count - vec_len l.bundles
