use Rattle.std.proofs.Common.{◌≡◌, ℕ, ◌<◌, ◌+◌, ◌⊎◌}
use Rattle.std.specs.Int.{bit_at}
use Rattle.nc_vet.specs.machinery.Judged.{near_to, IsGood}
use Rattle.nc_vet.proofs.transfers.nears_good.Given as goal

abbrev pub invariant-loop-left : goal.invariant-loop-left
invariant-loop-left l = (k : ℕ) → k < 64 → bit_at l.ends k ≡ 1 → (bit_at l.left k ≡ 1)
    ⊎ IsGood l.base l.limit l.code l.bundles (near_to l.base l.code (l.start + k))

abbrev pub decreases-loop-left : goal.decreases-loop-left
decreases-loop-left l = l.left
