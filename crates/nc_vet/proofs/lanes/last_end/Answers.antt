use Rattle.std.proofs.Common.{◌≡◌, ℕ, ◌+◌, ◌-◌, arith, ap, ◌∙◌, w32}
use Rattle.std.specs.Int.{bit_at, leading_zeros}
use Rattle.std.proofs.lemmas.Nat.{leading_le}
use Rattle.nc_vet.proofs.RunStates.{top_bit}
use Rattle.nc_vet.proofs.lanes.last_end.Goals as goal

pub returns-clause-ended : goal.returns-clause-ended
returns-clause-ended c = λ later. (
  (let len : ℕ = 32 - leading_zeros w32 c.args.ends in
      let all : (32 - leading_zeros w32 c.args.ends) + leading_zeros w32 c.args.ends ≡ 32 = omega (arith, leading_le 32 c.args.ends) in
      ap (λ (k : ℕ). bit_at c.args.ends
      k) {x = c.args.start + (32 - leading_zeros w32 c.args.ends) - c.args.start - 1} {y = 32 - leading_zeros w32 c.args.ends - 1}
      (omega arith)
      ∙ top_bit c.args.ends (32 - leading_zeros w32 c.args.ends) (omega (arith, c.ranges.ends)) all (λ none. omega (arith, none, later))),
  λ same. c.if-code-end.false same,
)
