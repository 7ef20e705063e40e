use Rattle.std.proofs.Common.{◌≤◌, ◌-◌, length}
use Rattle.nc_vet.specs.machinery.Judged.{AreJudged}
use Rattle.nc_vet.specs.machinery.Lists.{AreBelow}
use Rattle.nc_vet.proofs.lists.judged_by_lists.Given as goal

abbrev pub invariant-loop-n : goal.invariant-loop-n
invariant-loop-n l = record {
  judged : AreJudged l.base l.limit l.code l.bundles l.n;
  within : l.n ≤ length l.bundles;
  small : AreBelow (length l.code) l.list;
}

abbrev pub decreases-loop-n : goal.decreases-loop-n
decreases-loop-n l = length l.bundles - l.n
