-- the rule that the lock was made with
use Rattle.std.specs.Prelude.{Some}
use mathlib.Core.Path.{refl}
use Rattle.nc_region.proofs.shared.SharedOf.chunk_count.Given as goal

abbrev pub ghosts-count_at : goal.ghosts-count_at
ghosts-count_at g a = record { first = Some a.lock.now; one = record {}; only = λ x y. refl }
