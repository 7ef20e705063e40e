use Rattle.std.proofs.Common.{◌≡◌, [], ◌∷◌}
use Rattle.nc_vet.specs.machinery.Running.{HaveRun}
use Rattle.nc_vet.proofs.lanes.run_eight.Given as goal

abbrev pub invariant-loop-i : goal.invariant-loop-i
invariant-loop-i l = record {
  place : l.place ≡ l.i;
  run : HaveRun l.code l.at l.i (l.a ∷ l.b ∷ l.c ∷ l.d ∷ l.e ∷ l.f ∷ l.g ∷ l.h ∷ []) l.states;
}
