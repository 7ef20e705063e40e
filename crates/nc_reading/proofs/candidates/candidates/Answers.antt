use Rattle.std.proofs.Common.{ℕ, ap, ◌∙◌, ◌==◌}
use Rattle.nc_vet.proofs.Offered.{loaded}
use Rattle.nc_reading.proofs.MarkBits.{not_zero}
use Rattle.nc_reading.proofs.candidates.candidates.Goals as goal

pub returns : goal.returns
returns c = λ k lt clear.
    not_zero _ _ _ clear (c.zeros.ensures k lt ∙ ap (λ (x : ℕ). x == 0) (loaded c.quiet_marks-marks.result k lt)) (c.quiet_marks-marks.ensures k lt)
