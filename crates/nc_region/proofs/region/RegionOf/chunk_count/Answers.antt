use Rattle.std.proofs.Common.{rules}
use Rattle.nc_text.proofs.Offered.{confined_if_closed}
use Rattle.nc_region.proofs.deleting.QuietSpans.{quiet_spans}
use Rattle.nc_region.proofs.region.RegionOf.chunk_count.Goals as goal

pub returns-clause-confined : goal.returns-clause-confined
returns-clause-confined g c = rw (← c.self.view_is) (confined_if_closed _ _ c.self.invariant.0.whole.closed)

pub returns-clause-quiet : goal.returns-clause-quiet
returns-clause-quiet g c = rw (← c.self.view_is) (quiet_spans _ _ c.self.invariant.0)

pub returns-clause-count : goal.returns-clause-count
returns-clause-count g c = search rules
