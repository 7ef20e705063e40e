use Rattle.std.proofs.Common.{ap, sym, ◌∙◌}
use Rattle.std.specs.Result.{result_ok}
use Rattle.nc_region.proofs.patch.judge.single.Goals as goal

pub returns-in-Ok : goal.returns-in-Ok
returns-in-Ok c = (sym c.decode.ensures.first ∙ ap result_ok c.in-Ok.is, c.if-instr-bytes.true)
