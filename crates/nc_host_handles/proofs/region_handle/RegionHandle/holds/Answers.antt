use Rattle.std.proofs.Common.{arith}
use Rattle.std.proofs.lemmas.Bool.{ltb-true, lt-ltb}
use Rattle.nc_host_handles.proofs.region_handle.RegionHandle.holds.Goals as goal

pub returns-then-at-ge-START : goal.returns-then-at-ge-START
returns-then-at-ge-START c = (
  λ t. (c.if-at-ge-START.true, omega (arith, ltb-true c.args.at c.limit.result t, c.limit.ensures)),
  λ h. lt-ltb c.args.at c.limit.result (omega (arith, h.1, c.limit.ensures)),
)
