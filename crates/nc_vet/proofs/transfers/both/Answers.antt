use Rattle.std.proofs.Common.{ℕ, ◌+◌, ◌*◌, ◌^◌, ◌∙◌, ap, arith}
use Rattle.std.specs.Int.{bit_at}
use Rattle.nc_vet.proofs.BitPlaces.{first_of_two, second_of_two}
use Rattle.nc_vet.proofs.transfers.both.Goals as goal

pub returns-clause-first : goal.returns-clause-first
returns-clause-first c = λ k lt.
    ap (λ (n : ℕ). bit_at n k) {x = c.from.result * 2 ^ 32 + c.from-2.result} {y = c.args.second * 2 ^ 32 + c.args.first}
    (omega (arith, c.from.ensures, c.from-2.ensures))
    ∙ first_of_two c.args.first c.args.second k lt

pub returns-clause-second : goal.returns-clause-second
returns-clause-second c = λ k lt.
    ap (λ (n : ℕ). bit_at n (32 + k)) {x = c.from.result * 2 ^ 32 + c.from-2.result} {y = c.args.second * 2 ^ 32 + c.args.first}
    (omega (arith, c.from.ensures, c.from-2.ensures))
    ∙ second_of_two c.args.first c.args.second k (omega (arith, c.ranges.first))
