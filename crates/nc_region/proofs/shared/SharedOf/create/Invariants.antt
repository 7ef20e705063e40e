-- the rule that the lock was made with
use Rattle.std.specs.Prelude.{Some}
use mathlib.Core.Path.{refl}
use Rattle.nc_region.proofs.shared.SharedOf.create.Given as goal

abbrev pub ghosts-create_at : goal.ghosts-create_at
ghosts-create_at g a = record { first = Some a.lock.now; one = record {}; only = λ x y. refl }
