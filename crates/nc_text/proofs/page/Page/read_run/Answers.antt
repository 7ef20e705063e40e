use Rattle.std.proofs.Common.{rules}
use Rattle.nc_text.proofs.page.Page.read_run.Goals as goal

pub loop-k-preserved : goal.loop-k-preserved
loop-k-preserved c = search rules
