use Rattle.std.proofs.Common.{List, length, sym, ap, ◌∙◌, sum_by}
use Rattle.nc_decode.specs.declared.instruction.Mark.{Mark}
use Rattle.nc_report.specs.machinery.Counts.{count_mark}
use Rattle.nc_report.proofs.Counted.{counted}
use Rattle.nc_report.proofs.BitCounts.{sum_bits}
use Rattle.nc_report.proofs.counting.count_instructions.Goals as goal

pub returns-in-Some : goal.returns-in-Some
returns-in-Some c =
    counted c.args.chunk.now c.count_bits.result c.code-length.ensures.valid
    (c.count_bits.ensures ∙ sym (sum_bits c.args.chunk.now.code c.in-Some.bundles.now
    (c.if-bundles-length.true ∙ ap length c.code-length.ensures.value))
    ∙ ap (λ (ms : List Mark). sum_by count_mark ms) (sym c.in-Some.ensures.marks))

pub returns-in_default : goal.returns-in_default
returns-in_default c = counted c.args.chunk.now c.count_marks.result c.code-length.ensures.valid c.count_marks.ensures
