-- the rule that the lock was made with
use Rattle.std.specs.Prelude.{Some}
use mathlib.Core.Path.{refl}
use Rattle.nc_region.proofs.shared.SharedOf.walk.Given as goal

abbrev pub ghosts-walk_at : goal.ghosts-walk_at
ghosts-walk_at g a = record { first = Some a.lock.now; one = record {}; only = λ x y. refl }
