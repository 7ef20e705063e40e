use Rattle.std.proofs.Common.{rules, arith, refl}
use Rattle.std.proofs.lemmas.Grind.{common_steps}
use Rattle.nc_lines.proofs.vetting.vet_lines.Goals as goal

pub returns-then-not-contains-clause-bad_size : goal.returns-then-not-contains-clause-bad_size
returns-then-not-contains-clause-bad_size g c = (λ e _. cc, λ n. absurd (n (search rules)))

pub returns-then-not-contains-clause-bad_workers : goal.returns-then-not-contains-clause-bad_workers
returns-then-not-contains-clause-bad_workers g c = (λ _. search rules, λ _. refl)

pub returns-clause-no_seats : goal.returns-clause-no_seats
returns-clause-no_seats g c = grind (arith, common_steps)
