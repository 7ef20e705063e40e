use Rattle.std.proofs.Common.{◌≡◌, ◌+◌, ℕ, length, take, ap, ◌∙◌, sym, arith, sum_by, take_all}
use Rattle.std.proofs.lemmas.List.Sums.{sum_by_more}
use Rattle.std.proofs.lemmas.Option.{get_or_from_slice_get}
use Rattle.nc_decode.specs.declared.instruction.Mark.TheVariants.{Unmarked}
use Rattle.nc_vet.proofs.Offered.{valid_len}
use Rattle.nc_report.specs.machinery.Counts.{count_mark}
use Rattle.nc_report.proofs.counting.count_marks.Goals as goal

pub loop-i-preserved : goal.loop-i-preserved
loop-i-preserved c =
    let (counted, small) = c.loop-i.invariant in
    let marks = c.args.chunk.now.marks in
    let i = c.loop-i.i in
    let long : length marks ≡ length c.code-length.result.now =
    valid_len c.args.chunk.now c.code-length.ensures.valid ∙ sym (ap length c.code-length.ensures.value) in (
      ap (λ (n : ℕ). n + c.count_mark-count.result) counted
          ∙ ap (λ (n : ℕ). sum_by count_mark (take i marks) + n)
          (c.count_mark-count.ensures.value ∙ ap count_mark (sym (get_or_from_slice_get marks i c.mark.result Unmarked c.mark.ensures.value)))
          ∙ sym (sum_by_more count_mark marks i Unmarked (omega (arith, long, c.loop-i-test.true))),
      omega (arith, small, c.count_mark-count.ensures.small),
    )

pub returns : goal.returns
returns c =
    let (counted, small) = c.loop-i.invariant in
    let marks = c.args.chunk.now.marks in
    let long : length marks ≡ length c.code-length.result.now =
    valid_len c.args.chunk.now c.code-length.ensures.valid ∙ sym (ap length c.code-length.ensures.value) in
    counted ∙ ap (sum_by count_mark) (take_all c.loop-i.i marks (omega (arith, long, c.loop-i-test.false)))
