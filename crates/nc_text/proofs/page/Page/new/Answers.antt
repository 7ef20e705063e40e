use Rattle.std.proofs.Common.{ℕ, replicate, arith, ap}
use Rattle.std.proofs.lemmas.List.{get_or-replicate}
use Rattle.nc_text.specs.declared.masks.Masks.{Masks}
use Rattle.nc_text.proofs.Tables.{fresh_marks}
use Rattle.nc_text.proofs.page.Page.new.Goals as goal

pub returns-clause-bytes : goal.returns-clause-bytes
returns-clause-bytes c = λ k lt. get_or-replicate {A = ℕ} 4096 k 244 0 lt

pub returns-clause-marks : goal.returns-clause-marks
returns-clause-marks c = λ k lt. fresh_marks (replicate 128 c.unused.result) 128 k (ap (λ (m : Masks). replicate 128 m) c.unused.ensures)
    (omega arith)
