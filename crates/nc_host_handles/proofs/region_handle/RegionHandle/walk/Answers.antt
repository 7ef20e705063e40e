use Rattle.std.proofs.Common.{subst}
use Rattle.std.specs.Prelude.{IfOk}
use Rattle.nc_region.specs.Trace.{IsSafeWalk}
use Rattle.nc_region.specs.declared.trace.Trace.{Trace}
use Rattle.nc_host_handles.specs.RegionHandle.{RegionHandleState}
use Rattle.nc_host_handles.proofs.region_handle.RegionHandle.walk.Goals as goal

pub returns-clause-trace : goal.returns-clause-trace
returns-clause-trace c = rw (← c.self.view_is) c.walk.ensures.trace

pub returns-clause-only : goal.returns-clause-only
returns-clause-only c = rw (← c.self.view_is) c.walk.ensures.only

pub returns-clause-safe : goal.returns-clause-safe
returns-clause-safe c =
    subst (λ (h : RegionHandleState). IfOk c.walk.result (λ (t : Trace). IsSafeWalk h.region.marked.bytes c.args.start c.args.choices.now t.end))
    c.self.view_is c.walk.ensures.safe

pub returns-clause-begins : goal.returns-clause-begins
returns-clause-begins c = rw (← c.self.view_is) c.walk.ensures.begins

pub returns-clause-refused : goal.returns-clause-refused
returns-clause-refused c = rw (← c.self.view_is) c.walk.ensures.refused
