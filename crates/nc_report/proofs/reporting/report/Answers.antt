use Rattle.std.proofs.Common.{Bool, subst}
use Rattle.std.proofs.lemmas.Result.{IfErr-at_err}
use Rattle.nc_report.specs.Report.{HasBegun, Reports}
use Rattle.nc_report.proofs.reporting.report.Goals as goal

pub returns-clause-write_failed : goal.returns-clause-write_failed
returns-clause-write_failed g c = λ e. subst (λ limit. HasBegun (λ text. (refused : Bool)
    × Reports c.args.base limit c.args.style c.args.source.name.items c.args.source.code.items refused text)
    (g.W.Write.contents c.args.writer.now) (g.W.Write.contents c.vet_and_report.new.writer))
    c.limit_after.ensures (IfErr-at_err _ e c.vet_and_report.ensures.cut)

pub returns-clause-out_of_memory : goal.returns-clause-out_of_memory
returns-clause-out_of_memory g c = λ e. subst (λ limit. HasBegun (λ text. (refused : Bool)
    × Reports c.args.base limit c.args.style c.args.source.name.items c.args.source.code.items refused text)
    (g.W.Write.contents c.args.writer.now) (g.W.Write.contents c.vet_and_report.new.writer))
    c.limit_after.ensures (IfErr-at_err _ e c.vet_and_report.ensures.cut)
