use Rattle.std.proofs.Common.{ℕ, List, subst, take}
use Rattle.std.proofs.lemmas.Result.{on_ok_weaker, on_err_weaker}
use Rattle.std.specs.Io.KnownBytes.{Appends}
use Rattle.nc_report.specs.Report.{ReportsAccepted}
use Rattle.nc_report.proofs.Additions.{begun_written}
use Rattle.nc_report.proofs.AcceptedTexts.{accepted}
use Rattle.nc_report.proofs.source_report.report_accepted.Goals as goal

pub returns-clause-ok : goal.returns-clause-ok
returns-clause-ok g c =
    on_ok_weaker c.write_last.result
    (λ all. record {
      text = c.push_accepted.new.out.items;
      says = accepted c.args.chunk.now c.args.style c.args.name.now _ _ c.in-Ok.ensures c.new-out.ensures.items;
      written = subst (λ (xs : List ℕ). Appends (g.W.Write.contents c.args.writer.now) (g.W.Write.contents c.write_last.new.writer) xs)
          c.deref.ensures.value all;
    })
    c.write_last.ensures.ok

pub returns-clause-cut : goal.returns-clause-cut
returns-clause-cut g c =
    let chunk = c.args.chunk.now in
    on_err_weaker c.write_last.result
    (λ w. begun_written (ReportsAccepted chunk.base chunk.limit c.args.style c.args.name.now chunk.code) _ _ c.push_accepted.new.out.items w.0
    (accepted chunk c.args.style c.args.name.now _ _ c.in-Ok.ensures c.new-out.ensures.items)
    (subst (λ (xs : List ℕ). Appends (g.W.Write.contents c.args.writer.now) (g.W.Write.contents c.write_last.new.writer) (take w.0 xs))
    c.deref.ensures.value w.1))
    c.write_last.ensures.cut
