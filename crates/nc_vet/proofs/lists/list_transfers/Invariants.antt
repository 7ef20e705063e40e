use Rattle.std.proofs.Common.{◌≡◌, ◌≤◌, ◌*◌, ◌-◌, length}
use Rattle.nc_vet.specs.machinery.Lists.{AreBelow, AreListed}
use Rattle.nc_vet.proofs.lists.list_transfers.Given as goal

abbrev pub invariant-loop-n : goal.invariant-loop-n
invariant-loop-n l = record {
  low : l.start ≤ l.n;
  within : l.n ≤ length l.bundles;
  fresh : l.n ≡ l.start → l.count ≡ 0;
  room : l.count ≤ 256;
  small : AreBelow (32 * length l.bundles) l.list;
  listed : AreListed l.bundles l.list l.count l.start l.n;
}

abbrev pub decreases-loop-n : goal.decreases-loop-n
decreases-loop-n l = length l.bundles - l.n
