use Rattle.std.proofs.Common.{length, arith, sym, ◌∙◌}
use Rattle.std.proofs.lemmas.Bool.{eqb-false}
use Rattle.nc_host_handles.proofs.SpanReads.{span_long, span_high, span_whole, span_room}
use Rattle.nc_host_handles.proofs.region_calls.report_creation.Goals as goal

pub returns : goal.returns
returns c =
    let some = eqb-false (length c.args.acts.now) 0 (sym c.is_empty.ensures ∙ c.if-is_empty.false) in
    let span = c.args.span.now in
    let wrote = c.write_creation.ensures in
    record {
      lent = λ lt. (omega (arith, wrote.counted, span_long span.region.now.marked.bytes span.base span.length span.placed), wrote.buffer);
      not_lent = λ e. absurd (omega (arith, e, some));
    }

pub write_creation-requires-clause-high : goal.write_creation-requires-clause-high
write_creation-requires-clause-high c = span_high c.args.span.now.region.now.marked.bytes _ _ c.args.span.now.placed

pub write_creation-requires-clause-whole : goal.write_creation-requires-clause-whole
write_creation-requires-clause-whole c = span_whole c.args.span.now.region.now.marked.bytes _ _ c.args.span.now.placed

pub write_creation-requires-clause-room : goal.write_creation-requires-clause-room
write_creation-requires-clause-room c =
    span_room c.args.span.now.region.now.marked.bytes _ _ _ _ c.args.span.now.placed c.requires.room c.is_empty.ensures c.if-is_empty.false
