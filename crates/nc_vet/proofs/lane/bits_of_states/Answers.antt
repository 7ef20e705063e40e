use Rattle.std.proofs.Common.{arith, ap, ◌∙◌, ℕ, ◌==◌, nat_le}
use Rattle.nc_decode.specs.declared.automaton.TheConstants.{END, AFTER_SHORT, AFTER_NEAR, AFTER_PAIR}
use Rattle.nc_vet.proofs.LaneBits.{loaded}
use Rattle.nc_vet.proofs.lane.bits_of_states.Goals as goal

pub returns : goal.returns
returns c = record {
  ends = λ k lt. c.ended.ensures k lt ∙ ap (λ (x : ℕ). nat_le END x) (loaded c.args.states.now k lt);
  pairs = λ k lt. c.equal.ensures k lt ∙ ap (λ (x : ℕ). x == AFTER_PAIR) (loaded c.args.states.now k lt);
  shorts = λ k lt. c.equal-2.ensures k lt ∙ ap (λ (x : ℕ). x == AFTER_SHORT) (loaded c.args.states.now k lt);
  nears = λ k lt. c.equal-3.ensures k lt ∙ ap (λ (x : ℕ). x == AFTER_NEAR) (loaded c.args.states.now k lt);
  small = omega (arith, c.equal.type_inv);
}
