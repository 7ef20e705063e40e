use Rattle.std.proofs.Common.{arith, []}
use Rattle.std.proofs.lemmas.Grind.{common_steps}
use Rattle.nc_report.proofs.TotalWords.{kind_added}
use Rattle.nc_report.proofs.totals.push_kinds.Goals as goal

pub loop-n-preserved : goal.loop-n-preserved
loop-n-preserved c =
    kind_added c.args.out.now.items c.loop-n.out.items c.push_kind.new.out.items c.loop-n.begun c.args.kinds.now c.args.kinds.now
    c.loop-n.n-index (0, record { ref_ptr = (0, 0); now = [] }) c.loop-n-test.true c.loop-n.invariant c.in_ok-push_kind.ensures

pub returns : goal.returns
returns c = grind (arith, common_steps)
