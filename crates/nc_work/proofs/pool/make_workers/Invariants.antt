use Rattle.std.specs.Prelude.{◌≡◌, All, []}
use Rattle.nc_work.proofs.pool.make_workers.Given as goal

abbrev pub invariant-loop : goal.invariant-loop
invariant-loop g l = All (λ worker. worker.done.items ≡ []) l.made.items
