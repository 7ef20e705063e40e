use Rattle.std.proofs.Common.{ap, ◌∙◌, ℕ, ◌==◌}
use Rattle.std.specs.Int.{bit_at}
use Rattle.nc_vet.proofs.LaneBits.{least_small, least_bit}
use Rattle.nc_vet.proofs.lane.ended.Goals as goal

pub bits-requires : goal.bits-requires
bits-requires c = least_small c.args.states c.fits-states.0

pub returns : goal.returns
returns c = λ k lt. ap (λ (m : ℕ). bit_at m k == 1) c.bits.ensures ∙ least_bit c.args.states k c.fits-states.0 lt
