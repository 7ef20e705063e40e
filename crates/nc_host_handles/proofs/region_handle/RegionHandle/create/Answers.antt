use Rattle.std.proofs.Common.{arith, ap, subst}
use Rattle.std.proofs.lemmas.Grind.{common_steps}
use Rattle.std.specs.Prelude.{◌≡◌}
use Rattle.nc_text.specs.Places.{limit_of}
use Rattle.nc_region.specs.Region.{IsCreated}
use Rattle.nc_histories.specs.Calls.{no_details}
use Rattle.nc_histories.specs.Histories.{LogsCall}
use Rattle.nc_host_handles.specs.RegionHandle.{RegionHandleState}
use Rattle.nc_host_handles.proofs.Reporting.{loads}
use Rattle.nc_host_handles.proofs.SpanReads.{created_reported}
use Rattle.nc_host_handles.proofs.region_handle.RegionHandle.create.Goals as goal

pub invariant_of-span : goal.invariant_of-span
invariant_of-span c = grind (arith, common_steps)

pub returns-clause-reported : goal.returns-clause-reported
returns-clause-reported c = grind (arith, common_steps)

pub returns-clause-call : goal.returns-clause-call
returns-clause-call c = λ seats.
    subst (λ (h : RegionHandleState). LogsCall seats (record no_details { marks = c.args.vetted.marks }) h.region c.create.new.region) c.self.view_is
    (c.in_default-create.ensures.call seats)

pub returns-clause-pending : goal.returns-clause-pending
returns-clause-pending c =
    loads c.args.self.now (record { region = c.create.new.region; passes = c.self.inside.passes.items; begun = c.self.inside.begun })
    c.args.vetted c.args.acts.now c.report_creation.new.acts c.report_creation.result c.code.ensures.valid
    (subst (λ (h : RegionHandleState). c.args.vetted.limit ≡ limit_of h.region.marked.bytes) c.self.view_is c.in_default-create.ensures.free.0)
    (subst (λ (h : RegionHandleState). IsCreated h.region c.create.new.region c.args.vetted) c.self.view_is c.in_default-create.ensures.created)
    c.in_default.ensures.allowed.0
    (ap (λ (h : RegionHandleState). record h { region = c.create.new.region }) c.self.view_is)
    (created_reported c.self.inside.region c.create.new.region c.args.vetted c.base-base.result c.code.result.now c.args.acts.now
    c.report_creation.new.acts c.report_creation.result c.base-base.ensures.value c.code.ensures.value c.in_default-create.ensures.created
    c.code.ensures.valid c.in_default-create.ensures.free.0 c.report_creation.ensures)
