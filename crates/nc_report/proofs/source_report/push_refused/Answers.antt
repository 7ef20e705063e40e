use Rattle.std.proofs.lemmas.Result.{on_ok_weaker}
use Rattle.nc_report.proofs.RefusedTexts.{brief, explained}
use Rattle.nc_report.proofs.source_report.push_refused.Goals as goal

pub returns-in-Brief : goal.returns-in-Brief
returns-in-Brief c =
    let (real, added) = c.in_ok-push_verdict.ensures in
    (real, brief c.args.out.now.items _ c.args.style c.args.judged.now.base c.args.name.now c.args.fault c.in-Brief.is added)

pub returns : goal.returns
returns c =
    let (real, added) = c.in_ok-push_verdict.ensures in
    on_ok_weaker c.push_explained.result
    (λ a. (
      real,
      explained c.args.out.now.items _ c.push_explained.new.out.items c.args.style c.args.judged.now.base c.args.name.now c.args.fault
          c.in_default.not-Brief added a,
    ))
    c.push_explained.ensures
