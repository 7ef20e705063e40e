use Rattle.std.proofs.Common.{ℕ, ◌+◌, ◌-◌, ◌<◌, ◌≤◌, length, arith}
use Rattle.nc_list.proofs.Mapped.{mapped_here, here_same, each_from_index}
use Rattle.nc_list.proofs.starts.lower.Goals as goal

pub overflow_sub-starts : goal.overflow_sub-starts
overflow_sub-starts c =
    let so = c.loop-i.invariant in
    let inside : c.loop-i.i < length c.args.starts.now = omega (arith, c.loop-i-test.true, so.long) in
    omega (
      arith,
      here_same c.loop-i.starts c.args.starts.now c.loop-i.i 0 so.rest,
      each_from_index (λ (n : ℕ). c.args.count ≤ n) c.args.starts.now (c.args.k + 1) c.loop-i.i 0 so.from inside c.requires.enough,
    )

pub loop-i-preserved : goal.loop-i-preserved
loop-i-preserved c =
    let so = c.loop-i.invariant in
    mapped_here (λ (n : ℕ). n - c.args.count) (c.args.k + 1) c.loop-i.i c.args.starts.now c.loop-i.starts so (omega (arith, c.loop-i-test.true, so.long))
