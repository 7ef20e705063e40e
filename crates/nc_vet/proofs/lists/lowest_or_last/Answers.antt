use Rattle.std.proofs.Common.{◌∙◌, ap, arith, ℕ, count_ones}
use Rattle.std.specs.Int.{bit_at}
use Rattle.nc_vet.proofs.LowestBits.{lowest_in_word, others_stay, one_fewer, one_less, lowest_found}
use Rattle.nc_vet.proofs.lists.lowest_or_last.Goals as goal

pub returns-clause-place : goal.returns-clause-place
returns-clause-place c = lowest_in_word c.args.bits (omega (arith, c.ranges.bits))

pub returns-clause-others : goal.returns-clause-others
returns-clause-others c = λ i lt set other.
    let lowest = lowest_found c.args.bits i (omega (arith, c.ranges.bits)) lt set in
    ap (λ (n : ℕ). bit_at n i) (one_less c.args.bits (omega (arith, c.ranges.bits)))
    ∙ others_stay _ c.args.bits i lowest.0 lowest.1 set other

pub returns-clause-fewer : goal.returns-clause-fewer
returns-clause-fewer c = ap (λ (n : ℕ). count_ones n) (one_less c.args.bits (omega (arith, c.ranges.bits))) ∙ one_fewer c.args.bits
