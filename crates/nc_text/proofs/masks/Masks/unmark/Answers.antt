use Rattle.std.proofs.Common.{arith, ◌∙◌}
use Rattle.nc_text.proofs.Spans.{one_mark_more}
use Rattle.nc_text.proofs.masks.Masks.unmark.Goals as goal

pub loop-i-preserved : goal.loop-i-preserved
loop-i-preserved c =
    one_mark_more c.loop-i.invariant c.set.new.self (omega arith) (c.set.ensures.same ∙ c.unused_mark.ensures) c.set.ensures.other
