use Rattle.std.specs.Prelude.{◌≡◌, All, None, vec_len}
use Rattle.nc_work.proofs.pool.make_places.Given as goal

abbrev pub invariant-loop : goal.invariant-loop
invariant-loop g l = record { none : All (λ place. place ≡ None) l.places.items; len : vec_len l.places ≡ l.counter }
