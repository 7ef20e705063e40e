use Rattle.std.proofs.Common.{Some, ap, subst}
use Rattle.nc_acts.specs.Log.{log_of_delete}
use Rattle.nc_host_handles.specs.RegionHandle.{RegionHandleState}
use Rattle.nc_host_handles.specs.Lent.{IsReported}
use Rattle.nc_host_handles.proofs.Reporting.{begins}
use Rattle.nc_host_handles.proofs.region_handle.RegionHandle.begin_delete.Goals as goal

pub returns-clause-pending : goal.returns-clause-pending
returns-clause-pending c = λ v.
    begins c.args.self.now (record { region = c.self.inside.region; passes = c.self.inside.passes.items; begun = Some c.in-Ok.chunk })
    c.args.base c.in-Ok.chunk c.args.acts.now c.report_deletion.new.acts c.report_deletion.result v
    (record {
      live = c.in-Ok.ensures.live;
      room = c.in-Ok.ensures.stamp;
      none = c.in-Ok.ensures.none;
      others = ap (λ (h : RegionHandleState). record h { begun = Some c.in-Ok.chunk }) c.self.view_is;
    })
    (subst (λ (h : RegionHandleState). IsReported c.args.acts.now c.report_deletion.new.acts c.report_deletion.result
    (log_of_delete h.region.marked.marks c.args.base c.in-Ok.chunk.length)) c.self.view_is c.report_deletion.ensures)
