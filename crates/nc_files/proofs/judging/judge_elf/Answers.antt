use Rattle.std.proofs.Common.{Bool, List, map, inl, subst}
use Rattle.std.proofs.lemmas.Result.{IfOk-weaker}
use Rattle.nc_elf.specs.Segments.{segments_of}
use Rattle.nc_report.specs.Report.{HasWritten}
use Rattle.nc_files.specs.Reports.{Judged, judged_in, ReportsAll, ReportsElf}
use Rattle.nc_files.proofs.WrittenReports.{judged_segments, written_so}
use Rattle.nc_files.proofs.judging.judge_elf.Goals as goal

pub returns-in-Ok : goal.returns-in-Ok
returns-in-Ok g c =
    let request = c.args.request.now in
    let name = c.args.file.now.name.items in
    let code = c.args.file.now.code.items in
    let parts = c.in-Ok.parts.items in
    let before = g.W.Write.contents c.args.writer.now in
    let after = g.W.Write.contents c.judge_parts.new.writer in
    let same = judged_segments request.style.format name code parts (segments_of code)
    c.in-Ok.ensures.bases c.in-Ok.ensures.names c.in-Ok.ensures.codes in
    IfOk-weaker c.judge_parts.result (λ (refused : Bool). HasWritten (ReportsAll request (map judged_in parts) refused) before after)
    (λ (refused : Bool). HasWritten (ReportsElf request name code refused) before after)
    (λ refused h. written_so (ReportsAll request (map judged_in parts) refused) (ReportsElf request name code refused) before after
    (λ text each. inl (c.in-Ok.ensures.well_formed, subst (λ (z : List Judged). ReportsAll request z refused text) same each)) h)
    c.judge_parts.ensures
