use Rattle.std.proofs.lemmas.Result.{on_ok_weaker}
use Rattle.nc_report.proofs.ShownWords.{adds_meaning}
use Rattle.nc_report.proofs.source_report.push_explained.Goals as goal

pub returns-in_default : goal.returns-in_default
returns-in_default c =
    on_ok_weaker c.push_said.result (adds_meaning c.args.format c.args.out.now.items c.push_said.new.out.items) c.push_said.ensures
