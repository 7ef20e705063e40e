use Rattle.std.proofs.lemmas.Option.{IfSome_then}
use Rattle.nc_lines.specs.Lines.{lines_of}
use Rattle.nc_lines.proofs.Gathering.{gathered}
use Rattle.nc_lines.proofs.vetting.gather.Goals as goal

pub returns-in-Ok-clause-ok : goal.returns-in-Ok-clause-ok
returns-in-Ok-clause-ok g c =
    IfSome_then _ c.in-Ok.ensures.ok (λ input a. gathered c.args.batch.now (lines_of input) a.reply c.reply_to_all.new.responder a.runs)
