use Rattle.std.proofs.Common.{ℕ, ◌<◌, get_or}
use Rattle.nc_vet.specs.machinery.Judged.{IsGoodEnd}
use Rattle.nc_vet.proofs.lists.are_good.Given as goal

abbrev pub invariant-loop-i : goal.invariant-loop-i
invariant-loop-i l = (j : ℕ) → j < l.i → IsGoodEnd l.base l.limit l.code l.bundles (get_or l.places j 0)
