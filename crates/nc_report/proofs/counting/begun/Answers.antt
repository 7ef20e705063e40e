use Rattle.std.proofs.Common.{◌≤◌, ℕ, subst, sym, arith}
use Rattle.nc_report.proofs.BitCounts.{ones_begun, begun_small}
use Rattle.nc_report.proofs.counting.begun.Goals as goal

pub returns-clause-value : goal.returns-clause-value
returns-clause-value c = ones_begun c.args.bundle (omega arith)

pub returns-clause-small : goal.returns-clause-small
returns-clause-small c = subst (λ (n : ℕ). n ≤ 32) (sym (ones_begun c.args.bundle (omega arith))) (begun_small c.args.bundle)
