use Rattle.std.proofs.Common.{ℕ, ◌+◌, arith}
use Rattle.nc_list.proofs.Mapped.{mapped_here}
use Rattle.nc_list.proofs.starts.raise.Goals as goal

pub loop-i-preserved : goal.loop-i-preserved
loop-i-preserved c =
    let so = c.loop-i.invariant in
    mapped_here (λ (n : ℕ). n + 1) (c.args.k + 1) c.loop-i.i c.args.starts.now c.loop-i.starts so (omega (arith, c.loop-i-test.true, so.long))
