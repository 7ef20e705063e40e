use Rattle.std.proofs.Common.{◌-◌, length}
use Rattle.nc_vet.specs.Listed.{listed}
use Rattle.nc_vet.specs.machinery.Steps.{HasJudged}
use Rattle.nc_vet.proofs.targets.bad_target.Given as goal

abbrev pub invariant-loop-at : goal.invariant-loop-at
invariant-loop-at l = HasJudged l.base l.limit l.code (listed l.code l.marks) l.at

abbrev pub decreases-loop-at : goal.decreases-loop-at
decreases-loop-at l = length l.code - l.at
