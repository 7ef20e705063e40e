use Rattle.std.proofs.Common.{◌≡◌, fold, take}
use Rattle.nc_gens.proofs.LeastNumber.{lower}
use Rattle.nc_gens.proofs.keeper.least_bound.Given as goal

abbrev pub invariant-loop-bound : goal.invariant-loop-bound
invariant-loop-bound l = l.least ≡ fold lower l.generation (take l.bound-index l.bounds)
