use Rattle.std.proofs.Common.{◌+◌, ℕ, length, refl, arith, sym, subst, ◌∙◌}
use Rattle.std.proofs.lemmas.Bool.{eqb-false}
use Rattle.nc_acts.specs.Log.{log_of_delete}
use Rattle.nc_host_acts.specs.Written.{HoldsLog}
use Rattle.nc_host_handles.proofs.SpanReads.{span_long, span_high, span_whole, span_room}
use Rattle.nc_host_handles.proofs.region_calls.report_deletion.Goals as goal

pub returns : goal.returns
returns c =
    let some = eqb-false (length c.args.acts.now) 0 (sym c.is_empty.ensures ∙ c.if-is_empty.false) in
    let span = c.args.span.now in
    let marked = span.region.now.marked in
    let long = span_long marked.bytes span.base span.length span.placed in
    let wrote : HoldsLog c.args.acts.now c.write_deletion.new.acts (span.length + 2) (log_of_delete marked.marks span.base span.length) =
    subst (λ (n : ℕ). HoldsLog c.args.acts.now c.write_deletion.new.acts (n + 2) (log_of_delete marked.marks span.base n)) long
    (c.write_deletion.ensures marked.marks (λ k lt. refl)) in
    record { lent = λ lt. (wrote.counted, wrote.buffer); not_lent = λ e. absurd (omega (arith, e, some)) }

pub write_deletion-requires-clause-high : goal.write_deletion-requires-clause-high
write_deletion-requires-clause-high c = span_high c.args.span.now.region.now.marked.bytes _ _ c.args.span.now.placed

pub write_deletion-requires-clause-whole : goal.write_deletion-requires-clause-whole
write_deletion-requires-clause-whole c = span_whole c.args.span.now.region.now.marked.bytes _ _ c.args.span.now.placed

pub write_deletion-requires-clause-room : goal.write_deletion-requires-clause-room
write_deletion-requires-clause-room c =
    span_room c.args.span.now.region.now.marked.bytes _ _ _ _ c.args.span.now.placed c.requires.room c.is_empty.ensures c.if-is_empty.false
