-- the rule that the lock was made with
use Rattle.std.specs.Prelude.{Some}
use mathlib.Core.Path.{refl}
use Rattle.nc_region.proofs.shared.SharedOf.reclaim.Given as goal

abbrev pub ghosts-reclaim_at : goal.ghosts-reclaim_at
ghosts-reclaim_at g a = record { first = Some a.lock.now; one = record {}; only = λ x y. refl }
