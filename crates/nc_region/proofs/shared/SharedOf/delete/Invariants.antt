-- the rule that the lock was made with
use Rattle.std.specs.Prelude.{Some}
use mathlib.Core.Path.{refl}
use Rattle.nc_region.proofs.shared.SharedOf.delete.Given as goal

abbrev pub ghosts-delete_at : goal.ghosts-delete_at
ghosts-delete_at g a = record { first = Some a.lock.now; one = record {}; only = λ x y. refl }
