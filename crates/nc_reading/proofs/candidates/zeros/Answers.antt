use Rattle.std.proofs.Common.{ap, ◌∙◌, ℕ, ◌==◌}
use Rattle.std.specs.Int.{bit_at}
use Rattle.nc_vet.proofs.Offered.{equal_small, equal_bit}
use Rattle.nc_reading.proofs.candidates.zeros.Goals as goal

pub bits-requires : goal.bits-requires
bits-requires c = equal_small c.args.marks 0 c.fits-marks.0

pub returns : goal.returns
returns c = λ k lt. ap (λ (m : ℕ). bit_at m k == 1) c.bits.ensures ∙ equal_bit c.args.marks 0 k c.fits-marks.0 lt
