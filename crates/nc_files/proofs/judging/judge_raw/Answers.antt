use Rattle.std.proofs.Common.{◌∙◌, ap}
use Rattle.nc_files.specs.Reports.{has_note}
use Rattle.nc_files.proofs.WrittenReports.{raw_refused, raw_accepted}
use Rattle.nc_files.proofs.judging.judge_raw.Goals as goal

pub returns-then-is_refused : goal.returns-then-is_refused
returns-then-is_refused g c =
    raw_refused c.args.request.now c.args.source.name.items c.args.source.code.items c.in-Ok.is_refused _ _
    c.if-is_refused.true c.in-Ok.ensures

pub returns-in-Ok-write_note : goal.returns-in-Ok-write_note
returns-in-Ok-write_note g c =
    raw_accepted c.args.request.now c.args.source.name.items c.args.source.code.items c.in-Ok.is_refused c.has_note-is_noted.result _ _ _
    c.if-is_refused.false (c.has_note-is_noted.ensures ∙ ap (has_note c.args.request.now.style) c.as_slice.ensures.value)
    c.in-Ok.ensures c.in-Ok-write_note.ensures
