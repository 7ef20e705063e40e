use Rattle.std.proofs.Common.{◌++◌, List, arith, ap, sym, ◌∙◌, append_assoc}
use Rattle.std.specs.Borrow.{Bor}
use Rattle.std.specs.Slice.Iter.{chunks_rest}
use Rattle.std.proofs.lemmas.Grind.{common_steps}
use Rattle.nc_files.proofs.PrintedFiles.{printed_append}
use Rattle.nc_files.proofs.checking.judge_all.Goals as goal

pub loop-files-init : goal.loop-files-init
loop-files-init g c = grind (arith, common_steps)

pub loop-files-preserved : goal.loop-files-preserved
loop-files-preserved g c =
    let (done, all, printed) = c.loop-files.invariant in
    let files = c.in-Some.files.now in (
      done ++ files,
      all ∙ ap (λ (z : List (Bor (List _))). done ++ z) c.in-Some.ensures.steps.1.0
          ∙ sym (append_assoc done files (chunks_rest c.next.new.self)),
      printed_append c.args.request.now done files _ _ _ _ _ _ printed c.in_ok-judge_round.ensures,
    )
