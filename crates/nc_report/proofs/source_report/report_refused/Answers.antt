use Rattle.std.proofs.Common.{arith, ◌++◌, [], List, ℕ, take, sym, subst, append-nil}
use Rattle.std.proofs.lemmas.Grind.{common_steps}
use Rattle.std.proofs.lemmas.Result.{on_ok_weaker, on_err_weaker}
use Rattle.std.specs.Io.KnownBytes.{Appends}
use Rattle.nc_report.specs.Report.{end_of, ReportsRefused}
use Rattle.nc_report.proofs.Additions.{begun_alone, begun_later, cut_here, cut_in, written_alone, writes_more}
use Rattle.nc_report.proofs.RefusedTexts.{ReportsOpen, open_text, reported_open, end_added, whole}
use Rattle.nc_report.proofs.source_report.report_refused.Goals as goal

pub push_refused-requires : goal.push_refused-requires
push_refused-requires g c = grind (arith, common_steps)

pub returns-in-Err-write_more-clause-cut : goal.returns-in-Err-write_more-clause-cut
returns-in-Err-write_more-clause-cut g c =
    let judged = c.args.judged.now in
    let style = c.args.style in
    begun_alone (ReportsRefused judged.base judged.limit style c.args.name.now judged.code.now) _ _ _ c.new-out.ensures.items
    (begun_later _ _ _ _ _ _ _
    (λ a b f m. (end_of style.format, open_text judged.base judged.limit style c.args.name.now judged.code.now c.args.fault c.requires c.in-Ok.ensures.0 a b f m))
    c.in-Ok.ensures.1 c.in-Err-write_more.ensures.cut)

pub returns-in-Err-push_end-clause-cut : goal.returns-in-Err-push_end-clause-cut
returns-in-Err-push_end-clause-cut g c =
    let judged = c.args.judged.now in
    let style = c.args.style in
    begun_alone (ReportsRefused judged.base judged.limit style c.args.name.now judged.code.now) _ _ _ c.new-out.ensures.items
    (cut_here _ _ _ _ (ReportsOpen judged.base judged.limit style c.args.name.now judged.code.now) _ (λ text t. (end_of style.format, t))
    (reported_open judged.base judged.limit style c.args.name.now judged.code.now _ _ _ c.args.fault _ _ c.requires c.in-Ok.ensures c.in-Ok-write_more.ensures.ok))

pub returns-clause-ok : goal.returns-clause-ok
returns-clause-ok g c =
    let judged = c.args.judged.now in
    let style = c.args.style in
    on_ok_weaker c.write_last.result
    (λ all. written_alone (ReportsRefused judged.base judged.limit style c.args.name.now judged.code.now) _ _ _ c.new-out.ensures.items
    (writes_more _ _ _ _ _ _ [] _ _ _ _ (whole judged.base judged.limit style c.args.name.now judged.code.now)
    (reported_open judged.base judged.limit style c.args.name.now judged.code.now _ _ _ c.args.fault _ _ c.requires c.in-Ok.ensures c.in-Ok-write_more.ensures.ok)
    (end_added style _ _ c.in-Ok-push_end.ensures)
    (subst (λ (xs : List ℕ). Appends (g.W.Write.contents c.write_more.new.writer) (g.W.Write.contents c.write_last.new.writer) xs)
    c.deref.ensures.value all) (append-nil _)))
    c.write_last.ensures.ok

pub returns-clause-cut : goal.returns-clause-cut
returns-clause-cut g c =
    let judged = c.args.judged.now in
    let style = c.args.style in
    on_err_weaker c.write_last.result
    (λ w. begun_alone (ReportsRefused judged.base judged.limit style c.args.name.now judged.code.now) _ _ _ c.new-out.ensures.items
    (cut_in _ _ _ _ _ _ w.0 _ _ _
    (λ a b t e. (
      [],
      subst (ReportsRefused judged.base judged.limit style c.args.name.now judged.code.now) (sym (append-nil (a ++ b)))
          (whole judged.base judged.limit style c.args.name.now judged.code.now a b t e),
    ))
    (reported_open judged.base judged.limit style c.args.name.now judged.code.now _ _ _ c.args.fault _ _ c.requires c.in-Ok.ensures c.in-Ok-write_more.ensures.ok)
    (end_added style _ _ c.in-Ok-push_end.ensures)
    (subst (λ (xs : List ℕ). Appends (g.W.Write.contents c.write_more.new.writer) (g.W.Write.contents c.write_last.new.writer) (take w.0 xs))
    c.deref.ensures.value w.1)))
    c.write_last.ensures.cut
