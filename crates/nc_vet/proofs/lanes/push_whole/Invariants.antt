use Rattle.std.proofs.Common.{◌≡◌, ◌+◌, vec_len, vec_capacity}
use Rattle.nc_vet.specs.machinery.Running.{AreTold}
use Rattle.nc_vet.proofs.lanes.push_whole.Given as goal

abbrev pub invariant-loop-n : goal.invariant-loop-n
invariant-loop-n l = record {
  told : AreTold l.code l.bundles.items;
  count : vec_len l.bundles ≡ vec_len l.initial.bundles + l.n;
  room : vec_capacity l.bundles ≡ vec_capacity l.initial.bundles;
}
