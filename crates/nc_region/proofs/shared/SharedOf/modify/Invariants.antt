-- the rule that the lock was made with
use Rattle.std.specs.Prelude.{Some}
use mathlib.Core.Path.{refl}
use Rattle.nc_region.proofs.shared.SharedOf.modify.Given as goal

abbrev pub ghosts-patch_at : goal.ghosts-patch_at
ghosts-patch_at g a = record { first = Some a.lock.now; one = record {}; only = λ x y. refl }
