use Rattle.std.proofs.Common.{arith, refl, length, ap, subst, ◌∙◌}
use Rattle.std.proofs.lemmas.Grind.{common_steps}
use Rattle.nc_region.specs.Patch.{IsPatch, MayRefusePatch}
use Rattle.nc_histories.specs.Calls.{no_details}
use Rattle.nc_histories.specs.Histories.{LogsCall}
use Rattle.nc_host_handles.specs.RegionHandle.{RegionHandleState}
use Rattle.nc_host_handles.specs.Pending.{ReportsPending}
use Rattle.nc_host_handles.proofs.Reporting.{patches}
use Rattle.nc_host_handles.proofs.PatchPlaces.{patch_lies, window_stands}
use Rattle.nc_host_handles.proofs.region_handle.RegionHandle.patch.Goals as goal

pub invariant_of-self : goal.invariant_of-self
invariant_of-self c = grind (arith, common_steps)

pub slice_bounds-report_patch-end : goal.slice_bounds-report_patch-end
slice_bounds-report_patch-end c = grind (arith, common_steps)

pub report_patch-requires-clause-long : goal.report_patch-requires-clause-long
report_patch-requires-clause-long c = grind (arith, common_steps)

pub invariant_of-self-2 : goal.invariant_of-self-2
invariant_of-self-2 c = grind (arith, common_steps)

pub returns-clause-lawful : goal.returns-clause-lawful
returns-clause-lawful c =
    subst (λ (h : RegionHandleState). IsPatch h.region c.args.at c.args.new.now) c.self.view_is c.in_default-patch.ensures.lawful

pub returns-clause-reported : goal.returns-clause-reported
returns-clause-reported c =
    let lies = patch_lies c.self.inside.region c.args.at c.args.new.now c.read_window-before.ensures.region c.in_default-patch.ensures.lawful in
    rw (← c.self.view_is) (λ news are.
    c.report_patch.ensures c.self.inside.region.marked.bytes news
    (window_stands c.self.inside.region.marked.bytes c.args.at (length c.args.new.now) c.bytes_before.result c.read_window-before.result lies
    (c.bytes_before.ensures.all lies.short) c.read_window-before.ensures.read) are)

pub returns-clause-lent : goal.returns-clause-lent
returns-clause-lent c =
    let lies = patch_lies c.self.inside.region c.args.at c.args.new.now c.read_window-before.ensures.region c.in_default-patch.ensures.lawful in
    grind (arith, lies.some, lies.short, c.in_default.ensures.allowed.1)

pub returns-in-Err-clause-refused : goal.returns-in-Err-clause-refused
returns-in-Err-clause-refused c = c.in-Err.ensures.refused c.args.at

pub returns-in-Err-patch-clause-refused : goal.returns-in-Err-patch-clause-refused
returns-in-Err-patch-clause-refused c = (
  c.in_default.ensures.allowed.0,
  c.in_default.ensures.allowed.1,
  subst (λ (h : RegionHandleState). MayRefusePatch h.region c.args.at c.args.new.now c.in-Err-patch.fault) c.self.view_is c.in-Err-patch.ensures.due,
)

pub returns-clause-call : goal.returns-clause-call
returns-clause-call c = λ seats.
    subst (λ (h : RegionHandleState). LogsCall seats no_details h.region c.patch.new.region) c.self.view_is (c.patch.ensures.call seats)

pub returns-clause-pending : goal.returns-clause-pending
returns-clause-pending c = λ v.
    let lies = patch_lies c.self.inside.region c.args.at c.args.new.now c.read_window-before.ensures.region c.in_default-patch.ensures.lawful in
    subst
    (λ (h : RegionHandleState). ReportsPending h (record { region = c.patch.new.region; passes = c.self.inside.passes.items; begun = c.self.inside.begun })
    v c.args.acts.now c.report_patch.new.acts c.report_patch.result) c.self.view_is
    (patches (record { region = c.self.inside.region; passes = c.self.inside.passes.items; begun = c.self.inside.begun })
    (record { region = c.patch.new.region; passes = c.self.inside.passes.items; begun = c.self.inside.begun })
    c.args.at c.args.new.now c.args.acts.now c.report_patch.new.acts c.report_patch.result v c.in_default-patch.ensures.lawful
    c.in_default-patch.ensures.patched (ap (λ (h : RegionHandleState). h.begun) c.self.view_is ∙ c.in_default.ensures.allowed.0) refl (λ news are.
    c.report_patch.ensures c.self.inside.region.marked.bytes news
    (window_stands c.self.inside.region.marked.bytes c.args.at (length c.args.new.now) c.bytes_before.result c.read_window-before.result lies
    (c.bytes_before.ensures.all lies.short) c.read_window-before.ensures.read) are))
